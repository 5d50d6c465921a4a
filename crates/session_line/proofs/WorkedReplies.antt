-- Worked replies, computed.
use Rattle.std.{proofs.Common.{ℕ, ◌≡◌, List, true, false, [], ◌∷◌, None, Some, codes, refl}, specs.Fmt.digits}
use Rattle.cards.specs.declared.card.CardFault.TheVariants as card
use Rattle.cards.specs.declared.edits.EditFault.TheVariants as fault
use Rattle.session_commands.specs.declared.refusals.Refusal.TheVariants as refusal
use Rattle.session_line.specs.declared.told_decks.DeckOutcome.TheVariants as outcome
use Rattle.session_line.specs.declared.replies.Reply.TheVariants as reply
use Rattle.desk_core.specs.declared.replies.State.TheVariants.{Behind, Ready}
use Rattle.session_commands.{specs.UnknownWords.told_word, proofs.WorkedLines.Gives}
use Rattle.deck_listing.specs.ListedObjects.{lines_in}
use Rattle.session_line.specs.{Replies.{text_of_reply, marked_text, status_text, told_deck_text, published_text, counted_text, numbers_text}, FileLines.file_line, declared.rights.Rights.TheVariants.{Edits, Reads}, Greetings.{connected_text, service_text}, Views.numbers_from}

-- replies: a version; names with their numbers
pub replies : Gives text_of_reply (
    (reply.Done 12, codes "OK 12\n") ∷
    (reply.Unkept 12, codes "UNKEPT 12\n") ∷
    (reply.Bye, codes "BYE\n") ∷
    (reply.Refused (refusal.OldVersion 4), codes "NO OldVersion 4\n") ∷
    (reply.Refused (refusal.UnknownCommand (told_word (codes "FOO"))), codes "NO UnknownCommand FOO\n") ∷
    (reply.Refused (refusal.UnknownCommand (told_word (codes "!234567890abcde~"))), codes "NO UnknownCommand !234567890abcde~\n") ∷
    (reply.Refused (refusal.BadLine 1 (card.BadCharacter 10)), codes "NO BadLine 1 BadCharacter 10\n") ∷
    (reply.Refused (refusal.BadLine 20 card.TooWide), codes "NO BadLine 20 TooWide\n") ∷
    (reply.Refused (refusal.BadEdit 2 fault.NoSuchCard), codes "NO BadEdit 2 NoSuchCard\n") ∷
    (reply.Refused (refusal.WriteFault 3), codes "NO WriteFault 3\n") ∷
    (reply.Refused refusal.ReadOnly, codes "NO ReadOnly\n") ∷
    [])
replies = unfold digits in refl

-- parts of replies, and their lines
pub lines : Gives {A = List ℕ} {B = List ℕ} (λ text. text) (
    -- numbers, each on a line of its own
    (numbers_text (numbers_from 9 (codes "SB1") (codes "A SB1" ∷ codes "" ∷ codes "SB1" ∷ [])), codes "9\n11\n") ∷
    -- the lines of a status
    (status_text (record { name = codes "M"; version = 1; cards = 0; state = Behind; decks_behind = 0 }), codes "M 1 0 BEHIND") ∷
    -- behind whose END two decks begin
    (status_text (record { name = codes "M"; version = 1; cards = 9; state = Ready; decks_behind = 2 }), codes "M 1 9 READY MORE 2") ∷
    (published_text (Some 7), codes "PUBLISHED 7") ∷
    (published_text None, codes "PUBLISHED NONE") ∷
    -- the lines of decks, with whether the file of each has its cards
    (marked_text (record { row = record { name = codes "M"; version = 7; cards = 0; state = Behind; decks_behind = 0 }; saved = true }), codes "M 7 0 BEHIND SAVED") ∷
    (marked_text (record { row = record { name = codes "M"; version = 7; cards = 9; state = Ready; decks_behind = 1 }; saved = true }), codes "M 7 9 READY SAVED MORE 1") ∷
    (marked_text (record { row = record { name = codes "M"; version = 7; cards = 0; state = Behind; decks_behind = 0 }; saved = false }), codes "M 7 0 BEHIND UNSAVED") ∷
    -- the lines of decks that were to be saved
    (told_deck_text (record { name = codes "M"; outcome = outcome.Done 7 }), codes "M 7") ∷
    (told_deck_text (record { name = codes "M"; outcome = outcome.Refused refusal.FileExists }), codes "M NO FileExists") ∷
    -- the lines of files
    (file_line (record { name = codes "M"; cards = Some 12; written = codes "2026-11-26T22:50:03Z" }), codes "M 12 2026-11-26T22:50:03Z\n") ∷
    (file_line (record { name = codes "B"; cards = None; written = codes "2026-11-26T22:50:03Z" }), codes "B UNREADABLE 2026-11-26T22:50:03Z\n") ∷
    -- the lines of who is connected
    (connected_text (record { number = 12; who = codes "PAT"; rights = Edits }), codes "SESSION 12 PAT") ∷
    (connected_text (record { number = 17; who = codes "17"; rights = Reads }), codes "READER 17 17") ∷
    (service_text, codes "SERVICE beskloun 0.1.0") ∷
    -- a first line that shows how many follow
    (counted_text 5 4, codes "OK 5 4") ∷
    [])
lines = unfold digits in refl

pub two_lines : lines_in (codes "MAP\nEND\n") ≡ 2
two_lines = refl
