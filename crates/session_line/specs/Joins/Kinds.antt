-- The kinds of replies that fit each change and each question (ours).
use Rattle.std.specs.Prelude.{Bool, true, false}
use Rattle.session_commands.specs.declared.words.Seen.TheVariants.{Exactly, Since}
use Rattle.desk_core.specs.declared.{calls.Change.Change, calls.Change.TheVariants.{AddDeck, PutDeck, DropDeck, EditDeck, Undo}, calls.Question.Question, calls.Question.TheVariants.{Changes, CardsAt, Cards, Show, Status}, replies.Reply.Reply}
use Rattle.desk_core.specs.declared.replies.Reply.TheVariants as reply

-- whether a reply shows a change, or refuses
abbrev pub is_change : Reply → Bool
is_change (reply.Changed version) = true
is_change (reply.Refused reason) = true
is_change _ = false

-- whether a reply shows a change with its edits, or refuses
abbrev pub is_carried : Reply → Bool
is_carried (reply.Carried version seen edits) = true
is_carried (reply.Refused reason) = true
is_carried _ = false

-- whether a reply has cards, or refuses
abbrev pub is_cards : Reply → Bool
is_cards (reply.CardsAre version cards) = true
is_cards (reply.Refused reason) = true
is_cards _ = false

-- whether a reply has changes, or refuses
abbrev pub is_changes : Reply → Bool
is_changes (reply.ChangesAre version kept) = true
is_changes (reply.Refused reason) = true
is_changes _ = false

-- whether a reply has cards with changes to be taken back, or refuses
abbrev pub is_cards_before : Reply → Bool
is_cards_before (reply.CardsBefore version cards backs) = true
is_cards_before (reply.Refused reason) = true
is_cards_before _ = false

-- whether a reply has a publication, or refuses
abbrev pub is_publication : Reply → Bool
is_publication (reply.Shown publication) = true
is_publication (reply.Refused reason) = true
is_publication _ = false

-- whether a reply has a status, or refuses
abbrev pub is_status : Reply → Bool
is_status (reply.StatusIs version published rows) = true
is_status (reply.Refused reason) = true
is_status _ = false

-- whether a reply is of the kind that a change asks for, or refuses
abbrev pub fits_change : Change → Reply → Bool
fits_change (AddDeck deck) reply = is_change reply
fits_change (PutDeck deck seen) reply = is_change reply
fits_change (DropDeck name seen) reply = is_change reply
fits_change (EditDeck name (Exactly seen) edits) reply = is_change reply
fits_change (EditDeck name (Since seen) edits) reply = is_carried reply
fits_change (Undo name version) reply = is_carried reply

-- whether a reply is of the kind that a question asks for, or refuses
abbrev pub fits_question : Question → Reply → Bool
fits_question (Changes name since) reply = is_changes reply
fits_question (CardsAt name version) reply = is_cards_before reply
fits_question (Cards name) reply = is_cards reply
fits_question Show reply = is_publication reply
fits_question Status reply = is_status reply
