use Rattle.std.proofs.Common.{◌∙◌}
use Rattle.parcel_packer.proofs.GatherLaws.{word_central}
use Rattle.parcel_packer.proofs.gathering.OpenWord.value.Goals as goal

pub returns : goal.returns
returns c =
    λ parcels h.
    c.central_value.ensures
    ∙ word_central c.args.kind c.args.self.now parcels c.filling-filling.result (λ one. c.if-units-eq1.false (c.units.ensures ∙ one)) h (c.filling-filling.ensures parcels h)
