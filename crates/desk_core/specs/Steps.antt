-- The step of a desk (ours): a function of the call and the desk, and one free choice.
use Rattle.std.specs.Prelude.{◌≡◌, ◌⊎◌, ℕ, List, Bool, true, false, not, ◌&&◌, IsTrue}
use Rattle.desk_core.specs.{Desks.Desk, Joins.Calls.{Change, AddDeck, PutDeck, DropDeck, EditDeck, Undo, Question, Changes, CardsAt, Cards, Show, Status, Work, Claim, DeliverDeck, DeliverLink, Publish, GiveUp, Call, Make, Ask, Do, Reply, Changed, Carried, CardsAre, ChangesAre, CardsBefore, Shown, StatusIs, DeckJob, LinkJob, Published, Refused, OutOfMemory}, Answers.Answer, Changing.{add_deck, put_deck, drop_deck}, Reading.{cards, show, status}, Earlier.{changes, cards_at}, Carrying.edit_seen, Undoing.undo, Claiming.claim, Delivering.{deliver_deck, deliver_link, publish, give_up, unlinked}}

-- what a change of who has a name is answered
abbrev pub answer_to_change : List ℕ → Change → Desk → Answer
answer_to_change by (AddDeck deck) desk = add_deck deck desk
answer_to_change by (PutDeck deck seen) desk = put_deck deck seen desk
answer_to_change by (DropDeck name seen) desk = drop_deck name seen desk
answer_to_change by (EditDeck name seen edits) desk = edit_seen name seen edits by desk
answer_to_change by (Undo name version) desk = undo name version by desk

-- what a question is answered
abbrev pub answer_to_question : Question → Desk → Answer
answer_to_question (Changes name since) desk = changes name since desk
answer_to_question (CardsAt name version) desk = cards_at name version desk
answer_to_question (Cards name) desk = cards name desk
answer_to_question Show desk = show desk
answer_to_question Status desk = status desk

-- what a worker is answered
abbrev pub answer_to_work : Work → Desk → Answer
answer_to_work Claim desk = claim desk
answer_to_work (DeliverDeck done) desk = deliver_deck done desk
answer_to_work (DeliverLink number publication) desk = deliver_link number publication desk
answer_to_work (Publish number) desk = publish number desk
answer_to_work (GiveUp number) desk = give_up number desk

-- the answer of a desk to a call, where memory is found
abbrev pub answer : Call → Desk → Answer
answer (Make by change) desk = answer_to_change by change desk
answer (Ask question) desk = answer_to_question question desk
answer (Do work) desk = answer_to_work work desk

-- a drop takes no memory
abbrev pub is_drop : Call → Bool
is_drop (Make by (DropDeck name seen)) = true
is_drop _ = false

-- whether a reply shows something that has to be stored or copied first
abbrev pub is_made : Reply → Bool
is_made (Changed version) = true
is_made (Carried version seen edits) = true
is_made (CardsAre version cards) = true
is_made (ChangesAre version edits) = true
is_made (CardsBefore version cards backs) = true
is_made (Shown publication) = true
is_made (StatusIs version published rows) = true
is_made (DeckJob job) = true
is_made (LinkJob job) = true
is_made (Published before) = true
is_made _ = false

-- whether a call with this reply takes memory
abbrev pub takes_memory : Call → Reply → Bool
takes_memory call reply = not (is_drop call) && is_made reply

-- the desk where there was no memory for a call: as it was, but that the lease of a link ends which it was to publish
abbrev pub starved : Call → Desk → Desk
starved (Do (Publish number)) desk = unlinked desk
starved call desk = desk

-- a step: the desk gives its answer; or, where that takes memory, it refuses for want of it
abbrev pub Steps : Desk → Call → Reply → Desk → Type 0
Steps desk call reply next =
    ((reply ≡ (answer call desk).reply) × (next ≡ (answer call desk).desk))
    ⊎ (IsTrue (takes_memory call (answer call desk).reply) × (reply ≡ Refused OutOfMemory) × (next ≡ starved call desk))
