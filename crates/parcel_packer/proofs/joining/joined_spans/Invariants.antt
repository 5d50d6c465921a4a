use Rattle.std.proofs.Common.{drop}
use Rattle.parcel_packer.specs.Joins.Joining.{IsJoining}
use Rattle.parcel_packer.proofs.joining.joined_spans.Given as goal

abbrev pub invariant-loop-span : goal.invariant-loop-span
invariant-loop-span l = IsJoining l.spans l.joined.items (drop l.span-index l.spans)
