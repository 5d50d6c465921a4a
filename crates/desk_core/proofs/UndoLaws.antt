-- What takes an edit back applies to what it leaves, and brings the cards back.
use Rattle.std.{specs.Prelude.{insert, remove}, proofs.Common.{◌≡◌, ℕ, zero, suc, ◌+◌, ◌-◌, ◌≤◌, ◌<◌, Bool, true, false, not, nat_le, List, [], ◌∷◌, length, get_or, Option, Some, None, refl, ap, ◌∙◌, arith}, proofs.Math.ListN.set, proofs.lemmas.Bool.{le-leb, lt-leb, and_from}, proofs.lemmas.List.{length-set, set-get_or}, proofs.lemmas.List.Edits.{length-insert, length-remove}}
use Rattle.cards.{proofs.FaultLaws.have-places, specs.Converging.HasPlace}
use Rattle.desk_core.specs.{Joins.Language.Card, Joins.Edits.{Edit, Insert, Replace, Remove, EditFault, NoSuchCard, DeckFull, fault_of, edited, is_place}, Joins.Causes.{when, first_cause}, Past.undo_of}

pub insert-removed : {X : Type 0} (xs : List X) (i : ℕ) (y : X) → i < length xs → insert (remove xs i) i y ≡ set xs i y
insert-removed [] i y within = absurd (omega (arith, within))
insert-removed (x ∷ xs) zero y within = refl
insert-removed (x ∷ xs) (suc i) y within = ap (λ ys. x ∷ ys) (insert-removed xs i y (omega (arith, within)))

remove-inserted : {X : Type 0} (xs : List X) (i : ℕ) (y : X) → i ≤ length xs → remove (insert xs i y) i ≡ xs
remove-inserted xs zero y within = refl
remove-inserted [] (suc i) y within = absurd (omega (arith, within))
remove-inserted (x ∷ xs) (suc i) y within = ap (λ ys. x ∷ ys) (remove-inserted xs i y (omega (arith, within)))

set-again : {X : Type 0} (xs : List X) (i : ℕ) (y d : X) → set (set xs i y) i (get_or xs i d) ≡ xs
set-again [] i y d = refl
set-again (x ∷ xs) zero y d = refl
set-again (x ∷ xs) (suc i) y d = ap (λ ys. x ∷ ys) (set-again xs i y d)

-- the place of an edit that applies
pub has-place : (edit : Edit) (cards : List Card) → fault_of edit cards ≡ None → HasPlace edit cards
has-place edit cards none =
    (have-places (edit ∷ []) cards (ap (λ (found : Option EditFault). elim found as (λ x. Option (ℕ × EditFault)) [ Some fault ↦ Some (1, fault) | None ↦ None ]) none)).0

-- the cards come back
pub undo-made : (edit : Edit) (cards : List Card) → HasPlace edit cards → edited (edited cards edit) (undo_of edit cards) ≡ cards
undo-made (Insert place card) cards has = let low = has.0 in let high = has.1 in remove-inserted cards (place - 1) card (omega (arith, low, high))
undo-made (Replace place card) cards has = set-again cards (place - 1) card []
undo-made (Remove place) cards has = let low = has.0 in let high = has.1 in insert-removed cards (place - 1) (get_or cards (place - 1) []) (omega (arith, low, high)) ∙ set-get_or cards (place - 1) []

is-one : (count place : ℕ) → 1 ≤ place → place ≤ count → is_place count place ≡ true
is-one count place low high = and_from (nat_le 1 place) (nat_le place count) (le-leb 1 place low) (le-leb place count high)

no-cause : {A : Type 0} (b : Bool) (cause : A) → b ≡ true → when (not b) cause ≡ None
no-cause true cause is = refl
no-cause false cause is = cc

no-causes : {A : Type 0} (b full : Bool) (cause other : A) → b ≡ true → full ≡ false → first_cause (when (not b) cause ∷ when full other ∷ []) ≡ None
no-causes true false cause other is room = refl
no-causes true true cause other is room = cc
no-causes false full cause other is room = cc

-- and what takes an edit back applies
pub undo-applies : (edit : Edit) (cards : List Card) → HasPlace edit cards → length cards ≤ 20000 → fault_of (undo_of edit cards) (edited cards edit) ≡ None
undo-applies (Insert place card) cards has few =
    let low = has.0 in let high = has.1 in
    let more = length-insert cards (place - 1) card (omega (arith, low, high)) in
    no-cause _ NoSuchCard (is-one (length (edited cards (Insert place card))) place low (omega (arith, high, more)))
undo-applies (Replace place card) cards has few =
    let low = has.0 in let high = has.1 in
    let same = length-set cards (place - 1) card in
    no-cause _ NoSuchCard (is-one (length (edited cards (Replace place card))) place low (omega (arith, high, same)))
undo-applies (Remove place) cards has few =
    let low = has.0 in let high = has.1 in
    let less = length-remove cards (place - 1) (omega (arith, low, high)) in
    no-causes _ _ NoSuchCard DeckFull (is-one (length (edited cards (Remove place)) + 1) place low (omega (arith, high, less)))
    (lt-leb 20000 (length (edited cards (Remove place))) (omega (arith, low, high, less, few)))
