use Rattle.std.proofs.{Common.{◌+◌, ◌^◌, ◌≤◌, arith, refl}, Math.Nat.pow-le-pow_right, lemmas.Nat.shl_whole}
use Rattle.parcel_packer.proofs.ParcelSteps.{joined_below}
use Rattle.parcel_packer.proofs.fields.joined_bits.Goals as goal

pub overflow_add-result : goal.overflow_add-result
overflow_add-result c =
    let next = c.args.next in
    let below = joined_below next.bits c.args.bits next.filled c.args.width c.requires.open c.requires.bits in
    let most : 2 ^ (next.filled + c.args.width) ≤ 2 ^ 60 = pow-le-pow_right {n = 2} (omega arith) c.requires.within in
    rw (shl_whole next.bits next.filled c.args.width 64 c.requires.open (omega arith)) (omega (arith, below, most))

pub returns-clause-value : goal.returns-clause-value
returns-clause-value c = rw (shl_whole c.args.next.bits c.args.next.filled c.args.width 64 c.requires.open (omega arith)) refl

pub returns-clause-fits : goal.returns-clause-fits
returns-clause-fits c =
    let next = c.args.next in
    rw (shl_whole next.bits next.filled c.args.width 64 c.requires.open (omega arith)) (joined_below next.bits c.args.bits next.filled c.args.width c.requires.open c.requires.bits)
