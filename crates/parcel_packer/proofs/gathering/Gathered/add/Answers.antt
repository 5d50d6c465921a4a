use Rattle.std.proofs.Common.{◌%◌, ◌/◌, ap, sym, ◌∙◌}
use Rattle.parcel_packer.{specs.Joins.Packing.parcel_at, proofs.GatherLaws.gathered_more}
use Rattle.parcel_packer.proofs.gathering.Gathered.add.Goals as goal

pub returns-clause-gathered : goal.returns-clause-gathered
returns-clause-gathered c =
    let same = c.units-units.ensures in
    λ parcels h.
    gathered_more c.args.kind parcels c.go_to.new.self.words.items c.go_to.new.self.next c.add.new.self (parcel_at c.args.is_instruction c.args.place c.args.bits)
    (c.in_ok-go_to.ensures.word ∙ ap (λ u. c.args.place / u) same) c.add.ensures.word
    (λ held k. c.add.ensures.added c.args.kind held c.args.place (ap (λ u. c.args.place % u) (sym same)) k)
    (c.in_ok-go_to.ensures.gathered parcels h)
