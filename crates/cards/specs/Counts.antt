-- What edits need by the number of cards alone (ours).
use Rattle.std.specs.Prelude.{ℕ, ◌+◌, ◌-◌, not, nat_le, List, [], ◌∷◌, Option, Some, None, Bool, true, false}
use Rattle.cards.specs.{declared.edits.Edit.Edit, declared.edits.Edit.TheVariants.{Insert, Replace, Remove}, declared.edits.EditFault.EditFault, declared.edits.EditFault.TheVariants.{NoSuchCard, DeckFull}, Causes.{when, first_cause}, Edits.{most_cards, is_place}}

-- what keeps an edit from applying to so many cards
abbrev pub fault_at : Edit → ℕ → Option EditFault
fault_at (Insert place card) count = first_cause (when (not (is_place (count + 1) place)) NoSuchCard ∷ when (nat_le most_cards count) DeckFull ∷ [])
fault_at (Replace place card) count = when (not (is_place count place)) NoSuchCard
fault_at (Remove place) count = when (not (is_place count place)) NoSuchCard

-- how many cards there are after an edit that applies to so many
abbrev pub count_after : Edit → ℕ → ℕ
count_after (Insert place card) count = count + 1
count_after (Replace place card) count = count
count_after (Remove place) count = count - 1

-- the first of the edits from this number on that does not apply, where there are so many cards
abbrev pub fault_from : ℕ → ℕ → List Edit → Option (ℕ × EditFault)
fault_from number count [] = None
fault_from number count (edit ∷ edits) = elim (fault_at edit count) [
  | Some fault ↦ Some (number, fault)
  | None ↦ fault_from (number + 1) (count_after edit count) edits
]

-- an insertion makes one card more
abbrev pub is_insertion : Edit → Bool
is_insertion (Insert place card) = true
is_insertion (Replace place card) = false
is_insertion (Remove place) = false
