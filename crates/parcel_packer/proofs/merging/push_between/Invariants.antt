use Rattle.std.proofs.Common.{◌-◌, drop, length}
use Rattle.parcel_packer.specs.Joins.Filling.{IsTaking}
use Rattle.parcel_packer.proofs.merging.push_between.Given as goal

abbrev pub invariant-loop-ahead : goal.invariant-loop-ahead
invariant-loop-ahead l = IsTaking (drop l.place l.older) l.from l.to l.initial.spans.items l.spans.items (drop l.ahead l.older)

abbrev pub decreases-loop-ahead : goal.decreases-loop-ahead
decreases-loop-ahead l = length l.older - l.ahead
