-- Worked histories: edits that find their card.
use Rattle.std.proofs.Common.{◌≡◌, [], ◌∷◌, codes, replicate, refl}
use Rattle.desk_core.{specs.Joins.Edits.{Insert, Replace, Remove, NoSuchCard, DeckFull}, specs.Desks.{Desk, new_desk}, specs.Joins.Calls.{Carried, CardsAre, Refused, NoDeck, OldVersion, BatchSize, BadEdit, Forgotten, TouchedCard}, proofs.Worked.{replies_to, desk_after, M, me, deck_m, add, edit, edit_since, cards, batch_since}}
use Rattle.desk_core.specs.Joins.Calls as calls

-- the deck M with *ONE and *TWO at version 1; at 2 another puts *A in front
abbrev at_two : Desk
at_two = desk_after (add (deck_m (codes "*ONE" ∷ codes "*TWO" ∷ [])) ∷ edit M 1 (Insert 1 (codes "*A")) me ∷ []) new_desk

-- who saw version 1 puts a card in front of *ONE, and then one behind *TWO
pub finds_its_card : replies_to (edit_since M 1 (Insert 1 (codes "*B")) me ∷ edit_since M 1 (Insert 3 (codes "*C")) me ∷ cards M ∷ []) at_two
    ≡ Carried 3 2 (Insert 2 (codes "*B") ∷ []) ∷ Carried 4 3 (Insert 5 (codes "*C") ∷ [])
    ∷ CardsAre 4 (codes "*A" ∷ codes "*B" ∷ codes "*ONE" ∷ codes "*TWO" ∷ codes "*C" ∷ []) ∷ []
finds_its_card = refl

-- a batch is numbered in what its edits leave of the cards that were seen
pub batch_finds_its_cards : replies_to (batch_since M 1 (Remove 1 ∷ Replace 1 (codes "*D") ∷ []) me ∷ cards M ∷ []) at_two
    ≡ Carried 3 2 (Remove 2 ∷ Replace 2 (codes "*D") ∷ []) ∷ CardsAre 3 (codes "*A" ∷ codes "*D" ∷ []) ∷ []
batch_finds_its_cards = refl

-- of two who change one card the second is shown which of those that he saw was changed, and by which version
pub second_is_refused : replies_to (edit_since M 1 (Replace 1 (codes "*X")) me ∷ edit_since M 1 (Remove 1) me ∷ batch_since M 2 (Remove 2 ∷ []) me ∷ edit_since M 3 (Remove 2) me ∷ []) at_two
    ≡ Carried 3 2 (Replace 2 (codes "*X") ∷ []) ∷ Refused (TouchedCard 1 3) ∷ Refused (TouchedCard 2 3) ∷ Carried 4 3 (Remove 2 ∷ []) ∷ []
second_is_refused = refl

-- the refusals in their order
pub refused : replies_to (
    edit_since (codes "N") 1 (Remove 1) me ∷ edit_since M 3 (Remove 9) me ∷ edit_since M 0 (Remove 9) me ∷ edit_since M 1 (Remove 3) me
    ∷ batch_since (codes "N") 1 [] me ∷ batch_since M 3 [] me ∷ batch_since M 0 [] me ∷ batch_since M 1 [] me ∷ batch_since M 1 (replicate 101 (Remove 1)) me ∷ batch_since M 1 (Remove 1 ∷ Remove 2 ∷ []) me ∷ []) at_two
    ≡ Refused NoDeck ∷ Refused (OldVersion 2) ∷ Refused (Forgotten 1) ∷ Refused calls.NoSuchCard
    ∷ Refused NoDeck ∷ Refused (OldVersion 2) ∷ Refused (Forgotten 1) ∷ Refused BatchSize ∷ Refused BatchSize ∷ Refused (BadEdit 2 NoSuchCard) ∷ []
refused = refl

-- a deck that others filled has no room, though it had for who looked before
pub filled : replies_to (edit_since M 1 (Insert 1 []) me ∷ batch_since M 1 (Insert 1 [] ∷ []) me ∷ [])
    (desk_after (add (deck_m (replicate 19999 [])) ∷ edit M 1 (Insert 1 []) me ∷ []) new_desk)
    ≡ Refused calls.DeckFull ∷ Refused (BadEdit 1 DeckFull) ∷ []
filled = refl
