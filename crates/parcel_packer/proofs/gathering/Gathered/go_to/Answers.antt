use Rattle.std.proofs.Common.{arith}
use Rattle.definitions.specs.Words.{in_word}
use Rattle.parcel_packer.proofs.GatherLaws.{gathered_on}
use Rattle.parcel_packer.proofs.gathering.Gathered.go_to.Goals as goal

pub returns-in_ok-end_word-clause-gathered : goal.returns-in_ok-end_word-clause-gathered
returns-in_ok-end_word-clause-gathered c =
    let next = c.args.self.now.next in
    λ parcels h.
    gathered_on c.args.kind parcels c.args.self.now.words.items c.end_word.new.self.words.items next c.at-self.result h
    (c.in_ok-end_word.ensures.ended (in_word c.args.kind next.word parcels) h.holds) (omega arith) (omega arith) (c.at-self.ensures.empty c.args.kind)
