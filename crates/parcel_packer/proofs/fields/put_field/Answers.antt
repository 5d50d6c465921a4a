use Rattle.parcel_packer.proofs.ParcelSteps.{field_within}
use Rattle.parcel_packer.proofs.fields.put_field.Goals as goal

pub returns-clause-put : goal.returns-clause-put
returns-clause-put c =
    field_within c.args.size c.args.spans.now.items c.args.next c.args.field c.joined_bits.result c.requires.field.bits_fit c.if-size-next.false c.joined_bits.ensures.value c.joined_bits.ensures.fits
