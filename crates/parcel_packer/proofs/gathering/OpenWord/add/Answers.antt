use Rattle.std.proofs.Common.{arith, ◌<◌, length, refl, get_or-set_same, get_or-set_other}
use Rattle.parcel_packer.proofs.GatherLaws.{parcel_added}
use Rattle.parcel_packer.proofs.gathering.OpenWord.add.Goals as goal

pub returns-clause-added : goal.returns-clause-added
returns-clause-added c =
    let inside : c.args.place < length c.args.self.now.parcels = omega arith in
    λ kind parcels at_place at h.
    parcel_added kind c.args.self.now _ parcels c.args.place at_place c.args.bits c.args.is_instruction c.requires at
    (rw get_or-set_same (cc)) (λ k other. rw get_or-set_other refl) c.either-self.ensures refl h
