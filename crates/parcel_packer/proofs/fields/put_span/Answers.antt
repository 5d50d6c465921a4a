use Rattle.std.proofs.{Common.{◌≡◌, ◌+◌, ◌-◌, ◌%◌, arith}, lemmas.Nat.shr_below}
use Rattle.parcel_packer.proofs.ParcelSteps.{few_whole, field_whole, parted}
use Rattle.parcel_packer.proofs.fields.put_span.Goals as goal

pub joined_bits-requires-clause-bits : goal.joined_bits-requires-clause-bits
joined_bits-requires-clause-bits c =
    let field = c.args.field in
    let left = (c.args.next.filled + field.width) % c.args.size in
    let h = parted c.args.size c.args.next.filled field.width c.requires.open.has_room c.requires.whole in
    let inside = h.inside in
    let all : field.width - left + left ≡ field.width = omega arith in
    shr_below field.bits (field.width - left) left (rw all c.requires.field.bits_fit)

pub joined_bits-requires-clause-within : goal.joined_bits-requires-clause-within
joined_bits-requires-clause-within c =
    let h = parted c.args.size c.args.next.filled c.args.field.width c.requires.open.has_room c.requires.whole in
    rw h.front (few_whole c.args.size _ c.args.next.filled c.args.field.width _ c.requires.fills h.parts c.requires.open.has_room c.requires.field.short)

pub returns-clause-put : goal.returns-clause-put
returns-clause-put c =
    let h = parted c.args.size c.args.next.filled c.args.field.width c.requires.open.has_room c.requires.whole in
    field_whole c.args.size c.args.spans.now.items c.push.new.self.items c.args.next c.args.field _ _ c.joined_bits.result c.last_bits.result c.requires.open c.requires.field.bits_fit h
    c.joined_bits.ensures.value c.last_bits.ensures c.in_ok-push.ensures.items
