-- Worked histories: changes that are taken back.
use Rattle.std.{proofs.Common.{◌≡◌, ℕ, false, List, [], ◌∷◌, codes, replicate, map, None, refl}, specs.List.range_with_len}
use Rattle.desk_core.{specs.Joins.Edits.{Insert, Replace, Remove, DeckFull}, specs.Past.KeptEdit, specs.Desks.{Desk, new_desk}, specs.Joins.Calls.{Changed, Carried, CardsAre, Refused, NoDeck, OldVersion, BadEdit, Forgotten, TouchedCard, NoChange, VersionsSpent}, proofs.Worked.{replies_to, desk_after, M, me, deck_m, add, batch, edit, undo, cards}}

-- the deck M with *A and *B at version 1; a batch removes the first and replaces the second, and another puts *X in front
abbrev at_three : Desk
at_three = desk_after (
    add (deck_m (codes "*A" ∷ codes "*B" ∷ [])) ∷ batch M 1 (Remove 1 ∷ Replace 1 (codes "*Y") ∷ []) me ∷ edit M 2 (Insert 1 (codes "*X")) me ∷ []) new_desk

-- the batch is taken back, the last of its edits first, and what came behind it stays; and an undo is taken back as any change
pub taken_back : replies_to (undo M 2 me ∷ cards M ∷ undo M 4 me ∷ cards M ∷ undo M 3 me ∷ cards M ∷ []) at_three
    ≡ Carried 4 3 (Replace 2 (codes "*B") ∷ Insert 2 (codes "*A") ∷ []) ∷ CardsAre 4 (codes "*X" ∷ codes "*A" ∷ codes "*B" ∷ [])
    ∷ Carried 5 4 (Remove 2 ∷ Replace 2 (codes "*Y") ∷ []) ∷ CardsAre 5 (codes "*X" ∷ codes "*Y" ∷ [])
    ∷ Carried 6 5 (Remove 1 ∷ []) ∷ CardsAre 6 (codes "*Y" ∷ []) ∷ []
taken_back = refl

-- nothing that another changed is undone: the card is known by its number at the version that is taken back, with the version that changed it
pub others_stay : replies_to (edit M 3 (Replace 2 (codes "*Z")) me ∷ undo M 2 me ∷ undo M 3 me ∷ undo M 4 me ∷ undo M 2 me ∷ []) at_three
    ≡ Changed 4 ∷ Refused (TouchedCard 1 4) ∷ Carried 5 4 (Remove 1 ∷ []) ∷ Carried 6 5 (Replace 1 (codes "*Y") ∷ []) ∷ Refused (TouchedCard 1 4) ∷ []
others_stay = refl

-- a card that comes back finds its place where one beside it is as it was, and not between two that were changed
abbrev at_two : Desk
at_two = desk_after (add (deck_m (codes "*A" ∷ codes "*B" ∷ codes "*C" ∷ [])) ∷ edit M 1 (Remove 2) me ∷ []) new_desk

pub between : replies_to (edit M 2 (Remove 2) me ∷ undo M 2 me ∷ cards M ∷ []) at_two
    ≡ Changed 3 ∷ Carried 4 3 (Insert 2 (codes "*B") ∷ []) ∷ CardsAre 4 (codes "*A" ∷ codes "*B" ∷ []) ∷ []
between = refl

pub between_changed : replies_to (edit M 2 (Replace 1 []) me ∷ edit M 3 (Replace 2 []) me ∷ undo M 2 me ∷ []) at_two
    ≡ Changed 3 ∷ Changed 4 ∷ Refused (TouchedCard 2 4) ∷ []
between_changed = refl

-- the refusals in their order: no edit made the version that added the deck, nor one that another deck's change made
pub refused : replies_to (
    undo (codes "N") 2 me ∷ undo M 4 me ∷ undo M 1 me ∷ undo M 0 me ∷ add (record { name = codes "N"; cards = [] }) ∷ undo M 4 me ∷ edit M 3 (Remove 1) me ∷ undo M 4 me ∷ undo M 5 me ∷ []) at_three
    ≡ Refused NoDeck ∷ Refused (OldVersion 3) ∷ Refused (Forgotten 1) ∷ Refused (Forgotten 1) ∷ Changed 4 ∷ Refused (OldVersion 3) ∷ Changed 5 ∷ Refused NoChange ∷ Carried 6 5 (Insert 1 (codes "*X") ∷ []) ∷ []
refused = refl

-- a deck that others filled has no room for a card that comes back
pub filled : replies_to (edit M 2 (Insert 1 []) me ∷ undo M 2 me ∷ []) (desk_after (add (deck_m (replicate 20000 [])) ∷ edit M 1 (Remove 1) me ∷ []) new_desk)
    ≡ Changed 3 ∷ Refused (BadEdit 1 DeckFull) ∷ []
filled = refl

-- so many edits of one card, each of a version of its own
abbrev edits_from : ℕ → ℕ → List KeptEdit
edits_from first count = map (λ version. record { version = version; edit = Replace 1 []; back = Replace 1 []; by = me }) (range_with_len first count)

-- a desk at a version whose deck was edited in each of the last eleven hundred, of which all behind the first are kept
abbrev worn : ℕ → Desk
worn version = record {
  version = version;
  leases = 0;
  link = None;
  publication = None;
  decks = (record { name = M; cards = [] ∷ []; identity = 1; version = 1902; built = false; kept = None; waiting = []; lease = None; past = record { since = 802; edits = edits_from 802 1101 } }) ∷ [];
}

-- the change of the version behind which all are kept is forgotten, though a rest of it is there
pub forgotten : replies_to (undo M 802 me ∷ undo M 803 me ∷ undo M 1902 me ∷ []) (worn 1902)
    ≡ Refused (Forgotten 802) ∷ Refused (TouchedCard 1 804) ∷ Carried 1903 1902 (Replace 1 [] ∷ []) ∷ []
forgotten = refl

pub spent : replies_to (undo M 803 me ∷ undo M 1902 me ∷ []) (worn 4611686018427387904) ≡ Refused (TouchedCard 1 804) ∷ Refused VersionsSpent ∷ []
spent = refl
