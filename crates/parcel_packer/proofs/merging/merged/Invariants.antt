use Rattle.std.proofs.Common.{drop}
use Rattle.parcel_packer.specs.Joins.Filling.{IsMerging}
use Rattle.parcel_packer.proofs.merging.merged.Given as goal

abbrev pub invariant-loop-next : goal.invariant-loop-next
invariant-loop-next l = IsMerging l.newer l.older l.spans.items (drop l.next-index l.newer) (drop l.place l.older) l.from
