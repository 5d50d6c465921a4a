-- Kept edits that led from some cards to others (ours).
use Rattle.std.specs.Prelude.{◌≡◌, ◌≤◌, List, [], ◌∷◌, length, None}
use Rattle.desk_core.specs.{Joins.Language.Card, Joins.Edits.{most_cards, fault_of, edited}, Past.{KeptEdit, undo_of}}

-- from these cards the edits led to those: each applied to what the ones before it left, and is kept with what takes it back from there
abbrev pub HaveLed : List Card → List KeptEdit → List Card → Type 0
HaveLed before [] now = before ≡ now
HaveLed before (one ∷ later) now = (fault_of one.edit before ≡ None) × (one.back ≡ undo_of one.edit before) × HaveLed (edited before one.edit) later now

-- kept edits led to these cards, from some that a deck may have
pub record IsPastOf (edits : List KeptEdit) (cards : List Card) : Type 0 where
  pub before : List Card
  pub few : length before ≤ most_cards
  pub led : HaveLed before edits cards
