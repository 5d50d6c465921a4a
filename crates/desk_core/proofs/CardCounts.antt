-- Edits that apply leave no more cards than a deck may have.
use Rattle.std.proofs.Common.{◌≡◌, ℕ, ◌+◌, ◌≤◌, List, [], ◌∷◌, length, Option, Some, None, option_map, refl}
use Rattle.cards.proofs.FaultLaws.{edited-few}
use Rattle.desk_core.specs.Joins.{Language.Card, Edits.{Edit, EditFault, fault_of, edited, edited_by, first_fault}}

-- a fault, one edit later
abbrev later : ℕ × EditFault → ℕ × EditFault
later fault = (fault.0 + 1, fault.1)

-- the first of edits of which each applies
pub first-applies : (found : Option EditFault) (more : Option (ℕ × EditFault)) →
    elim found as (λ x. Option (ℕ × EditFault)) [ Some fault ↦ Some (1, fault) | None ↦ option_map later more ] ≡ None → (found ≡ None) × (more ≡ None)
first-applies None None e = (refl, refl)
first-applies None (Some fault) e = cc
first-applies (Some fault) more e = cc

-- edits of which each applies to what the ones before it leave
pub edited_by-few : (edits : List Edit) (cards : List Card) → first_fault edits cards ≡ None → length cards ≤ 20000 → length (edited_by edits cards) ≤ 20000
edited_by-few [] cards none few = few
edited_by-few (edit ∷ edits) cards none few =
    let both = first-applies (fault_of edit cards) (first_fault edits (edited cards edit)) none in
    edited_by-few edits (edited cards edit) both.1 (edited-few edit cards both.0 few)
