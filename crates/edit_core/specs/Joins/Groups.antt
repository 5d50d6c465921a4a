-- The first of some edits made at once, which lie near each other, and the others left.
use Rattle.std.specs.Prelude.{ℕ, ◌≡◌, None, List, drop, take}
use Rattle.cards.specs.{declared.edits.Edit.Edit, Edits.edited_by}
use Rattle.statement_coder.specs.Meters.{Counts}
use Rattle.edit_core.specs.{Edited.{IsRecordOf, RisesToAnew, RisesToRebound}, Faults.against_all, Records.Record, Sums.CountsInOrder}

-- so many of these edits were made, and the others, which apply, are left
pub record IsFirstMade (count : ℕ) (edits others : List Edit) (old new : Record) (before behind : Counts) : Type 0 where
  pub others_are : others ≡ drop count edits
  pub made : IsRecordOf old.name (edited_by (take count edits) old.cards) new
  pub apply : against_all others new.is_spent new.cards ≡ None
  pub counts : CountsInOrder (take count edits) old.cards before behind
  pub anew : RisesToAnew (take count edits) old.cards before.sized behind.sized
  pub rebound : RisesToRebound (take count edits) old.cards before.coded behind.coded
