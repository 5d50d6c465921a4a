use Rattle.std.proofs.Common.{◌≤◌, length}
use Rattle.edit_core.proofs.near.near_edits.Given as goal

-- no more than there are
abbrev pub invariant-fewer : goal.invariant-fewer
invariant-fewer l = l.near ≤ length l.others

abbrev pub decreases-fewer : goal.decreases-fewer
decreases-fewer l = l.near
