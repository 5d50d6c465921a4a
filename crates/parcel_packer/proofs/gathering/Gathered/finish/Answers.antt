use Rattle.definitions.specs.Words.{in_word}
use Rattle.parcel_packer.proofs.GatherLaws.{gathered_all}
use Rattle.parcel_packer.proofs.gathering.Gathered.finish.Goals as goal

pub returns : goal.returns
returns c =
    let next = c.args.self.next in
    λ parcels h.
    gathered_all c.args.kind parcels c.args.self.words.items c.end_word.new.self.words.items next h
    (c.in_ok-end_word.ensures.ended (in_word c.args.kind next.word parcels) h.holds)
