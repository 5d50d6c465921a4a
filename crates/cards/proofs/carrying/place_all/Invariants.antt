use Rattle.std.proofs.Common.{◌≡◌, take}
use Rattle.cards.specs.Joins.CarrySteps.{placed_all}
use Rattle.cards.proofs.carrying.place_all.Given as goal

abbrev pub invariant-loop-count : goal.invariant-loop-count
invariant-loop-count l = l.edits ≡ placed_all l.initial.edits (take l.count l.places)
