-- Worked commands with the lines that belong to them, and worked texts, computed.
use Rattle.std.{proofs.Common.{ℕ, ◌≡◌, true, false, List, [], ◌∷◌, ◌++◌, None, Some, Ok, Err, codes, refl}, specs.Fmt.digits}
use Rattle.cards.specs.declared.card.CardFault.TheVariants as card
use Rattle.cards.specs.declared.edits.Edit.TheVariants.{Insert, Replace, Remove}
use Rattle.cards.specs.declared.edits.EditFault.TheVariants as fault
use Rattle.desk_core.specs.declared.calls.Change.TheVariants as change
use Rattle.desk_core.specs.declared.calls.Edits.TheVariants.{One, Batch}
use Rattle.desk_core.specs.declared.calls.Question.TheVariants as question
use Rattle.desk_core.specs.declared.replies.Reply.TheVariants as reply
use Rattle.desk_core.specs.declared.replies.State.TheVariants.{Behind}
use Rattle.desk_core.specs.declared.replies.Refusal.TheVariants as desk
use Rattle.deck_files.specs.declared.deck_shelf.SaveOver.TheVariants.{Known}
use Rattle.session_commands.{specs.declared.words.Seen.TheVariants.{Exactly, Since}, specs.declared.refusals.Refusal.TheVariants.{BadCommand, UnknownCommand, BadName, BadCard, BadLine, FileExists, NameTaken, ReadOnly}, specs.UnknownWords.told_word, specs.Commands.command_of, specs.declared.views.ErrorsView.TheVariants.{Every, Of}, specs.declared.views.CardsView.TheVariants.{All, From, With}, proofs.WorkedLines.Gives}
use Rattle.definitions.specs.{Cards.Card, DeckInput.Deck}
use Rattle.desk_core.specs.declared.published_texts.DeckText.TheVariants as part
use Rattle.desk_core.specs.declared.published_texts.PublishedText.TheVariants.{Image, Listing, Map}
use Rattle.session_line.specs.{declared.tasks.Task.TheVariants.{Make, Ask, AwaitVersion, ShowCards, ShowCardsAt, Show, LoadDeck, LoadAll, ReloadDeck, SaveDeck, SaveAll, ShowFiles, ShowFileStatus, Greet, ShowHelp, Leave, Refuse}, Tasks.{lines_due, task_of}, Answers.{told_of_call, told_of_wait, told_of_greeting, told_of_cards, told_of_cards_at, errors_told, part_told, text_told, told_text}, FileStatus.marked, ToldDecks.told_deck, DeckCuts.decks_in, Greetings.met, Rights.allowed, declared.rights.Rights.TheVariants.{Edits, Reads}}
use Rattle.session_line.specs.declared.answers.Told.TheVariants as told
use Rattle.session_line.specs.declared.tasks.PublishedView.TheVariants as showing

-- which call of the desk a line is
pub tasks : Gives (λ line. task_of line []) (
    (codes "ADD M", Make (change.AddDeck (record { name = codes "M"; cards = [] }))) ∷
    (codes "INS M 2 1 *A", Make (change.EditDeck (codes "M") (Exactly 2) (One (Insert 1 (codes "*A"))))) ∷
    (codes "INS M 2+ 1 *A", Make (change.EditDeck (codes "M") (Since 2) (One (Insert 1 (codes "*A"))))) ∷
    (codes "LOADALL M", LoadAll (codes "M")) ∷
    (codes "HELP", ShowHelp) ∷
    (codes "RELOAD M", ReloadDeck (codes "M")) ∷
    (codes "LOAD M", LoadDeck (codes "M")) ∷
    (codes "SAVE M", SaveDeck (codes "M") Known) ∷
    (codes "CARDS M", ShowCards (codes "M") All) ∷
    (codes "CARDS M AT 7", ShowCardsAt (codes "M") 7) ∷
    (codes "CHANGES M 7", Ask (question.Changes (codes "M") 7)) ∷
    (codes "UNDO M 7", Make (change.Undo (codes "M") 7)) ∷
    (codes "HELLO PAT", Greet (codes "PAT")) ∷
    (codes "IMAGE", Show (showing.Text Image)) ∷
    (codes "MAP", Show (showing.Text Map)) ∷
    (codes "IMAGE M", Show (showing.Part part.Section (codes "M"))) ∷
    (codes "LIST M", Show (showing.Part part.Listing (codes "M"))) ∷
    (codes "ERRORS", Show (showing.Errors Every)) ∷
    (codes "ERRORS M WORDS", Show (showing.Words (codes "M"))) ∷
    (codes "ERRORS M", Show (showing.Errors (Of (codes "M")))) ∷
    (codes "SAVEALL", SaveAll) ∷
    (codes "FILES", ShowFiles) ∷
    (codes "STATUS FILES", ShowFileStatus) ∷
    (codes "WAIT 7", AwaitVersion 7) ∷
    (codes "BYE", Leave) ∷
    (codes "PUT M 0 0", Make (change.PutDeck (record { name = codes "M"; cards = [] }) 0)) ∷
    [])
tasks = refl

-- a command with the lines behind it
pub tasks_of_lines : Gives {A = List ℕ × List (List ℕ)} (λ lines. task_of lines.0 lines.1) (
    -- a batch is one call, whose edits stand in the order of the lines
    ((codes "BATCH M 3 3", codes "INS 1 *X" ∷ codes "DEL 3" ∷ codes "REP 2 *Y" ∷ []), Make (change.EditDeck (codes "M") (Exactly 3) (Batch (Insert 1 (codes "*X") ∷ Remove 3 ∷ Replace 2 (codes "*Y") ∷ [])))) ∷
    ((codes "BATCH M 3+ 1", codes "DEL 3" ∷ []), Make (change.EditDeck (codes "M") (Since 3) (Batch (Remove 3 ∷ [])))) ∷
    ((codes "BATCH M+ 4 2", codes "FOO" ∷ codes "DEL 1" ∷ []), Refuse BadName) ∷
    -- of the lines the first that is no edit counts
    ((codes "BATCH M 4 2", codes "DEL 1" ∷ codes "FOO" ∷ []), Refuse BadCommand) ∷
    ((codes "BATCH M 4 2", codes "INS 1 a" ∷ codes "FOO" ∷ []), Refuse (BadCard (card.BadCharacter 1))) ∷
    -- a put is one call, and each of its lines is a card, one that looks like a command too
    ((codes "PUT M 3 3", codes "          IDENT  M " ∷ codes "DROP M 3" ∷ codes "" ∷ []), Make (change.PutDeck (record { name = codes "M"; cards = codes "          IDENT  M" ∷ codes "DROP M 3" ∷ codes "" ∷ [] }) 3)) ∷
    ((codes "PUT M+ 4 2", codes "a" ∷ codes "b" ∷ []), Refuse BadName) ∷
    -- the first line that is no card counts, and is shown with its number
    ((codes "PUT M 4 3", codes "*A" ∷ codes "*Ba" ∷ codes "c" ∷ []), Refuse (BadLine 2 (card.BadCharacter 3))) ∷
    [])
tasks_of_lines = refl

-- how many lines belong to a first line
pub lines_behind : Gives (λ line. lines_due (command_of line)) (
    -- a bad name takes the lines all the same, and counts before them
    (codes "BATCH M+ 4 2", 2) ∷
    -- a head that is malformed takes no lines
    (codes "BATCH M 4 0", 0) ∷
    -- nor does a line that is no command
    (codes "FOO M 4 2", 0) ∷
    -- its lines are taken whatever its name is, and the name counts before them
    (codes "PUT M+ 4 20000", 20000) ∷
    -- a head that is malformed takes no lines
    (codes "PUT M 4 20001", 0) ∷
    [])
lines_behind = refl

-- who may only ask asks for anything, and changes nothing: a line that is refused anyhow is refused for that
pub reads : Gives (allowed Reads) (
    (task_of (codes "CARDS M") [], ShowCards (codes "M") All) ∷
    (task_of (codes "CHANGES M 7") [], Ask (question.Changes (codes "M") 7)) ∷
    (task_of (codes "STATUS") [], Ask question.Status) ∷
    (task_of (codes "SAVEALL") [], Refuse ReadOnly) ∷
    (task_of (codes "STATUS FILES") [], ShowFileStatus) ∷
    (task_of (codes "FILES") [], ShowFiles) ∷
    (task_of (codes "HELLO PAT") [], Greet (codes "PAT")) ∷
    (task_of (codes "BYE") [], Leave) ∷
    (task_of (codes "ADD M") [], Refuse ReadOnly) ∷
    (task_of (codes "LOAD M") [], Refuse ReadOnly) ∷
    (task_of (codes "DROP M 2") [], Refuse ReadOnly) ∷
    (task_of (codes "DEL M 2+ 1") [], Refuse ReadOnly) ∷
    (task_of (codes "BATCH M 2 1") (codes "DEL 1" ∷ []), Refuse ReadOnly) ∷
    (task_of (codes "PUT M 0 0") [], Refuse ReadOnly) ∷
    (task_of (codes "UNDO M 2") [], Refuse ReadOnly) ∷
    (task_of (codes "SAVE M FORCE") [], Refuse ReadOnly) ∷
    (task_of (codes "ADD  M") [], Refuse BadCommand) ∷
    (task_of (codes "FOO M") [], Refuse (UnknownCommand (told_word (codes "FOO")))) ∷
    (task_of (codes "ADD M+") [], Refuse BadName) ∷
    (task_of (codes "BATCH M 2 1") (codes "INS 1 a" ∷ []), Refuse (BadCard (card.BadCharacter 1))) ∷
    [])
reads = refl

pub editors_edit : allowed Edits (task_of (codes "ADD M") []) ≡ Make (change.AddDeck (record { name = codes "M"; cards = [] }))
editors_edit = refl

-- replies of the desk
pub replies : Gives told_text (
    (told_of_call (reply.Changed 4), codes "OK 4\n") ∷
    -- two changes, of one edit and of two, by sessions 0 and 2; and none
    (told_of_call (reply.ChangesAre 6 (record { version = 5; edit = Insert 1 (codes "*A"); back = Remove 1; by = codes "0" } ∷ record { version = 6; edit = Remove 3; back = Insert 3 (codes "*C"); by = codes "2" } ∷ record { version = 6; edit = Replace 2 (codes ""); back = Replace 2 (codes "*B"); by = codes "2" } ∷ [])), codes "OK 6 5\nCHANGE 5 0 1\nINS 1 *A\nCHANGE 6 2 2\nDEL 3\nREP 2 \n") ∷
    (told_of_call (reply.ChangesAre 6 []), codes "OK 6 0\n") ∷
    (told_of_call (reply.Carried 5 4 (Insert 2 (codes "*B") ∷ [])), codes "OK 5\n") ∷
    (told_of_call (reply.Refused desk.NoChange), codes "NO NoChange\n") ∷
    (told_of_call (reply.Refused (desk.TouchedCard 1 4)), codes "NO Touched 1 4\n") ∷
    (told_of_call (reply.Refused (desk.Forgotten 12)), codes "NO Forgotten 12\n") ∷
    (told_of_call (reply.StatusIs 1 None (record { name = codes "M"; version = 1; cards = 0; state = Behind; decks_behind = 0 } ∷ [])), codes "OK 1 2\nPUBLISHED NONE\nM 1 0 BEHIND\n") ∷
    (told.FileStatus 2 None (marked (record { name = codes "M"; version = 1; cards = 0; state = Behind; decks_behind = 0 }) true ∷ marked (record { name = codes "N"; version = 2; cards = 0; state = Behind; decks_behind = 0 }) false ∷ []), codes "OK 2 3\nPUBLISHED NONE\nM 1 0 BEHIND SAVED\nN 2 0 BEHIND UNSAVED\n") ∷
    (told.Decks 9 (told_deck (codes "M") (told.Done 7) ∷ told_deck (codes "N") (told.Refused FileExists) ∷ []), codes "OK 9 2\nM 7\nN NO FileExists\n") ∷
    (told.Decks 3 (told_deck (codes "T") (told.Done 4) ∷ told_deck (codes "U") (told.Unkept 5) ∷ told_deck (codes "V") (told.Refused NameTaken) ∷ []), codes "OK 3 3\nT 4\nU UNKEPT 5\nV NO NameTaken\n") ∷
    -- who waited is shown the status without its decks: here once version 7 is published, and where nothing is
    (told_of_wait (reply.StatusIs 9 (Some 7) (record { name = codes "M"; version = 9; cards = 0; state = Behind; decks_behind = 0 } ∷ [])), codes "OK 9 1\nPUBLISHED 7\n") ∷
    (told_of_wait (reply.StatusIs 0 None []), codes "OK 0 1\nPUBLISHED NONE\n") ∷
    (told_of_call (reply.Refused (desk.OldVersion 4)), codes "NO OldVersion 4\n") ∷
    (told_of_call (reply.Refused (desk.BadEdit 2 fault.NoSuchCard)), codes "NO BadEdit 2 NoSuchCard\n") ∷
    -- what no desk answers to a session
    (told_of_call reply.AllOut, codes "NO Foreign\n") ∷
    [])
replies = unfold digits in refl

-- some cards
abbrev pub four : List (List ℕ)
four = codes "*A" ∷ codes "*B" ∷ codes "*C" ∷ codes "*D" ∷ []

pub cards_shown : Gives told_text (
    (told_of_cards All (reply.CardsAre 5 (codes "*B" ∷ codes "*A" ∷ [])), codes "OK 5 2\n*B\n*A\n") ∷
    -- of four cards, two from the second on, those behind the third, none behind the last, and none of no number
    (told_of_cards (From 2 2) (reply.CardsAre 5 four), codes "OK 5 2\n*B\n*C\n") ∷
    (told_of_cards (From 4 10) (reply.CardsAre 5 four), codes "OK 5 1\n*D\n") ∷
    (told_of_cards (From 5 10) (reply.CardsAre 5 four), codes "OK 5 0\n") ∷
    (told_of_cards (From 2 0) (reply.CardsAre 5 four), codes "OK 5 0\n") ∷
    -- the numbers of the cards that have a text
    (told_of_cards (With (codes "*B")) (reply.CardsAre 5 four), codes "OK 5 1\n2\n") ∷
    (told_of_cards (With (codes "*")) (reply.CardsAre 5 four), codes "OK 5 4\n1\n2\n3\n4\n") ∷
    (told_of_cards (With (codes "D")) (reply.CardsAre 5 four), codes "OK 5 1\n4\n") ∷
    (told_of_cards (With (codes "*AB")) (reply.CardsAre 5 four), codes "OK 5 0\n") ∷
    [])
cards_shown = unfold digits in refl

-- the cards at version 4, before a card came in front and the third went; and where what is to be taken back is none of these cards'
pub cards_then : Gives told_text (
    (told_of_cards_at (reply.CardsBefore 4 (codes "*X" ∷ codes "*A" ∷ codes "*B" ∷ []) (Insert 4 (codes "*C") ∷ Remove 1 ∷ [])), codes "OK 4 3\n*A\n*B\n*C\n") ∷
    (told_of_cards_at (reply.CardsBefore 4 (codes "*X" ∷ []) (Remove 2 ∷ [])), codes "NO Foreign\n") ∷
    [])
cards_then = unfold digits in refl

-- two decks: one with a flagged statement and an external that no deck has, and one where nothing is flagged
abbrev pub two_decks : List Deck
two_decks =
    record { name = codes "T"; cards = codes "          IDENT  T" ∷ codes "          EXT    GO" ∷ codes "          SA1    X" ∷ codes "          RJ     GO" ∷ codes "          END" ∷ [] }
    ∷ record { name = codes "U"; cards = codes "          IDENT  U" ∷ codes "          END" ∷ [] } ∷ []

-- a deck whose cards have another behind its END
abbrev pub deck_of_two : List Deck
deck_of_two = record { name = codes "T"; cards = codes "          IDENT  T" ∷ codes "          END" ∷ codes "*" ∷ codes "          IDENT  U" ∷ codes "          END" ∷ [] } ∷ []

pub parts : Gives told_text (
    -- no text of a deck that is not there
    (part_told part.Listing (codes "M") 0 [], codes "NO NoDeck\n") ∷
    (part_told part.Section (codes "M") 0 [], codes "NO NoDeck\n") ∷
    -- the section of one of them
    (part_told part.Section (codes "U") 2 two_decks, codes "OK 2 1\nDECK U REL 000101\n") ∷
    [])
parts = unfold digits in refl

pub errors : Gives told_text (
    (errors_told Every 2 two_decks, codes "OK 2 3\nERR T 3 U           SA1    X\nLINK U T GO\nEND\n") ∷
    (errors_told (Of (codes "T")) 2 two_decks, codes "OK 2 2\nERR T 3 U           SA1    X\nLINK U T GO\n") ∷
    (errors_told Every 1 deck_of_two, codes "OK 1 2\nMORE T 4           IDENT  U\nEND\n") ∷
    (errors_told (Of (codes "U")) 2 two_decks, codes "OK 2 0\n") ∷
    (errors_told (Of (codes "V")) 2 two_decks, codes "NO NoDeck\n") ∷
    [])
errors = unfold digits in refl

-- who greets is shown the service and who is connected; or why there is no status
pub greetings : Gives told_text (
    (told_of_greeting (met (reply.StatusIs 9 (Some 7) []) (record { number = 0; who = codes "PAT"; rights = Edits } ∷ record { number = 3; who = codes "3"; rights = Reads } ∷ [])), codes "OK 9 3\nSERVICE beskloun 0.1.0\nSESSION 0 PAT\nREADER 3 3\n") ∷
    (told_of_greeting (met (reply.StatusIs 0 None []) []), codes "OK 0 1\nSERVICE beskloun 0.1.0\n") ∷
    (told_of_greeting (met (reply.Refused desk.OutOfMemory) []), codes "NO OutOfMemory\n") ∷
    (told_of_greeting (met (reply.Changed 4) []), codes "NO Foreign\n") ∷
    [])
greetings = unfold digits in refl

pub texts : Gives told_text (
    (text_told Image 0 [], codes "OK 0 1\nEND\n") ∷
    (text_told Listing 0 [], codes "OK 0 2\nMAP\nEND\n") ∷
    (text_told Map 3 [], codes "OK 3 2\nMAP\nEND\n") ∷
    [])
texts = unfold digits in refl

-- the decks of a file with two, and why there are none
abbrev pub file_of_two : List Card
file_of_two = codes "          IDENT  T" ∷ codes "          END" ∷ codes "*" ∷ codes "          IDENT  U,1" ∷ codes "          END" ∷ []

pub decks : Gives decks_in (
    (file_of_two, Ok (record { name = codes "T"; cards = codes "          IDENT  T" ∷ codes "          END" ∷ codes "*" ∷ [] } ∷ record { name = codes "U"; cards = codes "          IDENT  U,1" ∷ codes "          END" ∷ [] } ∷ [])) ∷
    (file_of_two ++ file_of_two, Err NameTaken) ∷
    (codes "*" ∷ file_of_two, Err BadName) ∷
    [])
decks = refl
