use Rattle.std.proofs.Common.{length}
use Rattle.edit_core.proofs.OrderLaws.{IsOnWay}
use Rattle.edit_core.proofs.kept.Kept.edit_groups.Given as goal

-- some of the edits are made, and these are left
abbrev pub invariant-groups : goal.invariant-groups
invariant-groups l = IsOnWay l.edits l.left l.initial.self l.self l.initial.meter l.meter

abbrev pub decreases-groups : goal.decreases-groups
decreases-groups l = length l.left
