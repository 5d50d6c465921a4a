use Rattle.std.proofs.Common.{◌≤◌, ◌*◌}
use Rattle.definitions.specs.Kinds.{unit_bits}
use Rattle.parcel_packer.proofs.GatherSteps.{past_all}
use Rattle.parcel_packer.proofs.gathering.parcel.Goals as goal

pub returns-else-shift-lt64 : goal.returns-else-shift-lt64
returns-else-shift-lt64 c =
    let past : 64 ≤ unit_bits c.args.kind * c.args.behind = rw (← c.parcel_bits-size.ensures.size) c.if-shift-lt64.false in
    past_all (unit_bits c.args.kind) c.args.behind c.args.bits c.ranges.bits.fits past
