-- One group after the other.
use Rattle.std.proofs.Common.{◌+◌}
use Rattle.edit_core.proofs.OrderLaws.{on-way-lost, on-way-more}
use Rattle.edit_core.proofs.kept.Kept.edit_groups.Goals as goal

pub groups-preserved : goal.groups-preserved
groups-preserved c =
    on-way-more c.args.edits.now c.groups.left.now c.in_ok-left.left.now (c.near_edits-near.result + 1) c.args.self.now c.groups.self c.edit_first.new.self c.args.meter.now c.groups.meter c.edit_first.new.meter
    c.groups.invariant c.in_ok-left.ensures.made

pub returns-in_err-left-clause-counts : goal.returns-in_err-left-clause-counts
returns-in_err-left-clause-counts c =
    on-way-lost c.args.edits.now c.groups.left.now c.args.self.now c.groups.self c.args.meter.now c.groups.meter c.edit_first.new.meter c.groups.invariant c.edit_first.ensures.counts
