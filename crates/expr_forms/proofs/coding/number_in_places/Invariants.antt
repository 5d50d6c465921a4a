use Rattle.std.proofs.Common.{◌≡◌, ◌-◌, take, drop}
use Rattle.definitions.specs.Forms.{characters_number}
use Rattle.expr_forms.specs.Joins.CodedItems.{in_places}
use Rattle.expr_forms.proofs.coding.number_in_places.Given as goal

-- the number of the characters so far
abbrev pub invariant-loop-place : goal.invariant-loop-place
invariant-loop-place l = l.number ≡ characters_number (take (l.place - l.from) (drop l.from (in_places l.places l.item)))
