use Rattle.std.proofs.Common.{◌≡◌, ◌+◌, ◌-◌, ◌≤◌, length}
use Rattle.expr_forms.specs.Joins.{Running.{bases_as, AreSmall}, Walks.walk_value}
use Rattle.expr_forms.proofs.values.walk_on.Given as goal

-- the walk so far and the links that are left have the value of the start; bases and links fit 355
abbrev pub invariant-links : goal.invariant-links
invariant-links g l = record {
  value : walk_value (g.N.Names.names l.names) l.walk l.room l.links ≡ walk_value (g.N.Names.names l.names) l.fn.start l.initial.room l.fn.behind;
  few : l.walk.sum.bases + length l.links ≤ 355;
  within : l.walk.sum.bases ≤ length l.room;
  small : AreSmall (355 - length l.links) (bases_as l.walk.sum.bases l.room);
}

abbrev pub decreases-links : goal.decreases-links
decreases-links g l = length l.links
