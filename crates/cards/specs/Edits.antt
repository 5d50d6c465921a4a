-- When an edit of a deck's cards applies, and what it makes of them (ours). Places count from 1.
use Rattle.std.specs.Prelude.{ℕ, ◌+◌, ◌-◌, Bool, not, ◌&&◌, nat_le, List, [], ◌∷◌, length, insert, remove, slice_set, fold, Option, Some, None, option_map}
use Rattle.definitions.specs.Cards.{Card}
use Rattle.cards.specs.{declared.edits.Edit.Edit, declared.edits.Edit.TheVariants.{Insert, Replace, Remove}, declared.edits.EditFault.EditFault, declared.edits.EditFault.TheVariants.{NoSuchCard, DeckFull}, Causes.{when, first_cause}}

-- how many cards a deck may have
abbrev pub most_cards : ℕ
most_cards = 20000

-- whether a place is one of so many
abbrev pub is_place : ℕ → ℕ → Bool
is_place count place = nat_le 1 place && nat_le place count

-- what keeps an edit from applying to these cards: its place is none of theirs, or there is no room for a card more
abbrev pub fault_of : Edit → List Card → Option EditFault
fault_of (Insert place card) cards = first_cause (when (not (is_place (length cards + 1) place)) NoSuchCard ∷ when (nat_le most_cards (length cards)) DeckFull ∷ [])
fault_of (Replace place card) cards = when (not (is_place (length cards) place)) NoSuchCard
fault_of (Remove place) cards = when (not (is_place (length cards) place)) NoSuchCard

-- the cards after an edit that applies
abbrev pub edited : List Card → Edit → List Card
edited cards (Insert place card) = insert cards (place - 1) card
edited cards (Replace place card) = slice_set cards (place - 1) card
edited cards (Remove place) = remove cards (place - 1)

-- the cards after edits, each of what the ones before it leave
abbrev pub edited_by : List Edit → List Card → List Card
edited_by edits cards = fold edited cards edits

-- the first edit that does not apply to what the ones before it leave: its number, from 1, and its fault
abbrev pub first_fault : List Edit → List Card → Option (ℕ × EditFault)
first_fault [] cards = None
first_fault (edit ∷ edits) cards = elim (fault_of edit cards) [
  | Some fault ↦ Some (1, fault)
  | None ↦ option_map (λ (later : ℕ × EditFault). (later.0 + 1, later.1)) (first_fault edits (edited cards edit))
]
