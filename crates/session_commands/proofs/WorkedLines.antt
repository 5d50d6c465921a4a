-- Worked lines, computed: which command each is, or why it is refused.
use Rattle.std.{proofs.Common.{◌≡◌, List, [], ◌∷◌, Ok, Err, codes, refl}, specs.Prelude.map}
use Rattle.cards.specs.declared.card.CardFault.TheVariants as card
use Rattle.cards.specs.declared.edits.Edit.TheVariants.{Insert, Replace, Remove}
use Rattle.deck_files.specs.declared.deck_shelf.SaveOver.TheVariants.{Known, Any}
use Rattle.session_commands.specs.declared.commands.Command.TheVariants as command
use Rattle.session_commands.specs.{declared.views.ErrorsView.TheVariants.{Every, Of}, declared.views.CardsView.TheVariants.{All, From, With}, declared.refusals.Refusal.TheVariants.{BadCommand, UnknownCommand, BadName, BadCard}, declared.words.Seen.TheVariants.{Exactly, Since}, UnknownWords.told_word, Edits.edit_in_batch, Commands.command_of}

-- a function gives for the first of each row the second
abbrev pub Gives : {A B : Type 0} → (A → B) → List (A × B) → Type 0
Gives f rows = map (λ row. f row.0) rows ≡ map (λ row. row.1) rows

pub commands : Gives command_of (
    -- each command
    (codes "ADD M", Ok (command.Add (codes "M"))) ∷
    (codes "LOADALL M", Ok (command.LoadAll (codes "M"))) ∷
    (codes "LOADALL", Err BadCommand) ∷
    (codes "HELP", Ok command.Help) ∷
    (codes "HELP ADD", Err BadCommand) ∷
    (codes "RELOAD M", Ok (command.Reload (codes "M"))) ∷
    (codes "RELOAD", Err BadCommand) ∷
    (codes "LOAD 1AJ", Ok (command.Load (codes "1AJ"))) ∷
    (codes "DROP M 2", Ok (command.Drop (codes "M") 2)) ∷
    (codes "INS M 1 1 *A", Ok (command.Edit (codes "M") (Exactly 1) (Insert 1 (codes "*A")))) ∷
    -- by who has seen this version, whatever others changed since
    (codes "INS M 1+ 1 *A", Ok (command.Edit (codes "M") (Since 1) (Insert 1 (codes "*A")))) ∷
    (codes "DEL M 007+ 3", Ok (command.Edit (codes "M") (Since 7) (Remove 3))) ∷
    -- a plus that stands elsewhere
    (codes "INS M + 1 *A", Err BadCommand) ∷
    (codes "INS M 1++ 1 *A", Err BadCommand) ∷
    (codes "INS M 1 + 1 *A", Err BadCommand) ∷
    (codes "INS M 1 1+ *A", Err BadCommand) ∷
    (codes "DROP M 1+", Err BadCommand) ∷
    (codes "PUT M 1+ 2", Err BadCommand) ∷
    (codes "DEL M 4611686018427387904+ 1", Ok (command.Edit (codes "M") (Since 4611686018427387904) (Remove 1))) ∷
    (codes "DEL M 4611686018427387905+ 1", Err BadCommand) ∷
    (codes "REP M 7 3  SB1 1 ", Ok (command.Edit (codes "M") (Exactly 7) (Replace 3 (codes " SB1 1")))) ∷
    (codes "DEL M 007 0", Ok (command.Edit (codes "M") (Exactly 7) (Remove 0))) ∷
    (codes "CARDS M", Ok (command.Cards (codes "M") All)) ∷
    (codes "CARDS M 11 10", Ok (command.Cards (codes "M") (From 11 10))) ∷
    -- no cards are asked for
    (codes "CARDS M 1 0", Ok (command.Cards (codes "M") (From 1 0))) ∷
    -- cards are counted from 1
    (codes "CARDS M 0 10", Err BadCommand) ∷
    (codes "CARDS M 11", Err BadCommand) ∷
    (codes "CARDS M 11 10 ", Err BadCommand) ∷
    -- the cards at a version
    (codes "CARDS M AT 7", Ok (command.CardsAt (codes "M") 7)) ∷
    -- a deck may be named so
    (codes "CARDS AT AT 7", Ok (command.CardsAt (codes "AT") 7)) ∷
    (codes "CARDS M AT", Err BadCommand) ∷
    (codes "CARDS M AT 7 1", Err BadCommand) ∷
    (codes "CARDS M at 7", Err BadCommand) ∷
    (codes "CARDS M+ AT 7", Err BadName) ∷
    -- a change taken back
    (codes "UNDO M 7", Ok (command.Undo (codes "M") 7)) ∷
    (codes "UNDO M", Err BadCommand) ∷
    (codes "UNDO M 7+", Err BadCommand) ∷
    (codes "UNDO M+ 7", Err BadName) ∷
    -- the changes behind a version
    (codes "CHANGES M 7", Ok (command.Changes (codes "M") 7)) ∷
    (codes "CHANGES M", Err BadCommand) ∷
    (codes "CHANGES M 7 8", Err BadCommand) ∷
    (codes "CHANGES M+ 7", Err BadName) ∷
    -- a text behind one blank, without its trailing blanks
    (codes "FIND M SB1  X ", Ok (command.Cards (codes "M") (With (codes "SB1  X")))) ∷
    (codes "FIND M  X", Ok (command.Cards (codes "M") (With (codes " X")))) ∷
    -- texts that are none
    (codes "FIND M", Err BadCommand) ∷
    (codes "FIND M   ", Err BadCommand) ∷
    (codes "FIND M sb1", Err BadCommand) ∷
    (codes "FIND M 123456789012345678901234567890123456789012345678901234567890123456789012", Ok (command.Cards (codes "M") (With (codes "123456789012345678901234567890123456789012345678901234567890123456789012")))) ∷
    (codes "FIND M 1234567890123456789012345678901234567890123456789012345678901234567890123", Err BadCommand) ∷
    (codes "FIND M+ X", Err BadName) ∷
    -- the text counts before the name
    (codes "FIND M+ x", Err BadCommand) ∷
    (codes "CARDS M+ 11 10", Err BadName) ∷
    (codes "SAVE M", Ok (command.Save (codes "M") Known)) ∷
    (codes "SAVE M FORCE", Ok (command.Save (codes "M") Any)) ∷
    (codes "SAVE M FORCE ", Err BadCommand) ∷
    (codes "SAVE M+ FORCE", Err BadName) ∷
    (codes "IMAGE", Ok command.Image) ∷
    (codes "LIST", Ok command.List) ∷
    (codes "MAP", Ok command.Map) ∷
    (codes "IMAGE M", Ok (command.ImageOf (codes "M"))) ∷
    (codes "LIST M", Ok (command.ListOf (codes "M"))) ∷
    (codes "LIST M+", Err BadName) ∷
    (codes "LIST M N", Err BadCommand) ∷
    -- a map is that of all decks
    (codes "MAP M", Err BadCommand) ∷
    (codes "ERRORS", Ok (command.Errors Every)) ∷
    (codes "SYMBOLS", Ok command.Names) ∷
    (codes "SYMBOLS M", Ok (command.Symbols (codes "M"))) ∷
    (codes "ERRORS M WORDS", Ok (command.Words (codes "M"))) ∷
    (codes "ERRORS M", Ok (command.Errors (Of (codes "M")))) ∷
    (codes "ERRORS M+", Err BadName) ∷
    (codes "ERRORS M N", Err BadCommand) ∷
    (codes "ERRORS ", Err BadCommand) ∷
    (codes "FILES", Ok command.Files) ∷
    (codes "FILES M", Err BadCommand) ∷
    (codes "FILES ", Err BadCommand) ∷
    (codes "SAVEALL", Ok command.SaveAll) ∷
    (codes "SAVEALL M", Err BadCommand) ∷
    (codes "STATUS", Ok command.Status) ∷
    (codes "STATUS ", Err BadCommand) ∷
    (codes "STATUS FILES", Ok command.FileStatus) ∷
    (codes "STATUS FILES M", Err BadCommand) ∷
    (codes "STATUS  FILES", Err BadCommand) ∷
    (codes "WAIT 12", Ok (command.Wait 12)) ∷
    -- a desk that was published for the first time
    (codes "WAIT 0", Ok (command.Wait 0)) ∷
    (codes "WAIT", Err BadCommand) ∷
    (codes "WAIT M", Err BadCommand) ∷
    (codes "WAIT 12 60", Err BadCommand) ∷
    (codes "WAIT 12 ", Err BadCommand) ∷
    (codes "WAIT 4611686018427387905", Err BadCommand) ∷
    (codes "BYE", Ok command.Bye) ∷
    (codes "BATCH M 3 100", Ok (command.Batch (record { name = Ok (codes "M"); seen = Exactly 3; count = 100 }))) ∷
    (codes "BATCH M 3+ 100", Ok (command.Batch (record { name = Ok (codes "M"); seen = Since 3; count = 100 }))) ∷
    -- the name of a batch is shown later
    (codes "BATCH M+ 3 1", Ok (command.Batch (record { name = Err BadName; seen = Exactly 3; count = 1 }))) ∷
    (codes "PUT M 3 2", Ok (command.Put (record { name = Ok (codes "M"); version = 3; count = 2 }))) ∷
    -- a new deck, without cards
    (codes "PUT M 0 0", Ok (command.Put (record { name = Ok (codes "M"); version = 0; count = 0 }))) ∷
    (codes "PUT M 3 20000", Ok (command.Put (record { name = Ok (codes "M"); version = 3; count = 20000 }))) ∷
    -- the name of a put is shown later, too
    (codes "PUT M+ 3 1", Ok (command.Put (record { name = Err BadName; version = 3; count = 1 }))) ∷
    -- the empty card, with a blank behind the place and without
    (codes "INS M 1 1", Ok (command.Edit (codes "M") (Exactly 1) (Insert 1 (codes "")))) ∷
    (codes "INS M 1 1 ", Ok (command.Edit (codes "M") (Exactly 1) (Insert 1 (codes "")))) ∷
    -- the greatest number, and 19 digits of it
    (codes "DROP M 4611686018427387904", Ok (command.Drop (codes "M") 4611686018427387904)) ∷
    (codes "DROP M 4611686018427387905", Err BadCommand) ∷
    (codes "DROP M 0000000000000000007", Ok (command.Drop (codes "M") 7)) ∷
    (codes "DROP M 00000000000000000007", Err BadCommand) ∷
    -- blanks that are one too many, or behind the last word
    (codes "ADD  M", Err BadCommand) ∷
    (codes "ADD M ", Err BadCommand) ∷
    (codes "IMAGE ", Err BadCommand) ∷
    (codes " ADD M", Err BadCommand) ∷
    (codes "INS M 1  1 X", Err BadCommand) ∷
    (codes "DEL M 1 1 ", Err BadCommand) ∷
    -- words that are missing, too many, or none
    (codes "", Err BadCommand) ∷
    (codes "ADD", Err BadCommand) ∷
    (codes "ADD M N", Err BadCommand) ∷
    (codes "INS M 1", Err BadCommand) ∷
    (codes "DROP M -1", Err BadCommand) ∷
    (codes "BATCH M 4 0", Err BadCommand) ∷
    (codes "BATCH M 4 101", Err BadCommand) ∷
    (codes "PUT M 4 20001", Err BadCommand) ∷
    (codes "PUT M 4 2 3", Err BadCommand) ∷
    (codes "PUT M 2", Err BadCommand) ∷
    (codes "PUT M+ 4 20001", Err BadCommand) ∷
    (codes "BATCH M+ 4 0", Err BadCommand) ∷
    -- first words that begin no command, whatever stands behind them
    (codes "FOO M  ", Err (UnknownCommand (told_word (codes "FOO")))) ∷
    (codes "add M", Err (UnknownCommand (told_word (codes "add")))) ∷
    (codes "SAVEALLM", Err (UnknownCommand (told_word (codes "SAVEALLM")))) ∷
    (codes "GET / HTTP/1.1", Err (UnknownCommand (told_word (codes "GET")))) ∷
    (codes "!234567890abcde~ M", Err (UnknownCommand (told_word (codes "!234567890abcde~")))) ∷
    -- first words that are not shown: too long, empty, or with a character that is not printed
    (codes "1234567890abcdefg M", Err BadCommand) ∷
    (codes " FOO", Err BadCommand) ∷
    (codes "ADD\tM", Err BadCommand) ∷
    (22 ∷ 3 ∷ 1 ∷ 0 ∷ 238 ∷ [], Err BadCommand) ∷
    (65 ∷ 127 ∷ [], Err BadCommand) ∷
    (65 ∷ 195 ∷ 164 ∷ [], Err BadCommand) ∷
    -- a session's name, and what is none
    (codes "HELLO PAT", Ok (command.Hello (codes "PAT"))) ∷
    (codes "HELLO 007", Ok (command.Hello (codes "007"))) ∷
    (codes "HELLO", Err BadCommand) ∷
    (codes "HELLO PAT JO+", Err BadCommand) ∷
    (codes "HELLO pat", Err BadName) ∷
    (codes "HELLO PATRICIA", Err BadName) ∷
    -- the order of refusals: the line, then the name, then the card
    (codes "INS M+ 1 X a", Err BadCommand) ∷
    (codes "DEL M+ 1 1 X", Err BadCommand) ∷
    (codes "INS M+ 1 1 a", Err BadName) ∷
    (codes "ADD ABCDEFGH", Err BadName) ∷
    (codes "INS M 1 1 Xa", Err (BadCard (card.BadCharacter 2))) ∷
    [])
commands = refl

pub batch_lines : Gives edit_in_batch (
    -- lines of a batch
    (codes "INS 1 *X", Ok (Insert 1 (codes "*X"))) ∷
    (codes "REP 2", Ok (Replace 2 (codes ""))) ∷
    (codes "DEL 3", Ok (Remove 3)) ∷
    (codes "FOO", Err BadCommand) ∷
    (codes "DEL 3 ", Err BadCommand) ∷
    (codes "INS M 1 1 X", Err BadCommand) ∷
    (codes "INS 1 a", Err (BadCard (card.BadCharacter 1))) ∷
    [])
batch_lines = refl
