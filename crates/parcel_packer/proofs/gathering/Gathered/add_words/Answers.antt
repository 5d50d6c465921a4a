use Rattle.std.proofs.Common.{◌+◌, ◌<◌, ◌^◌, arith}
use Rattle.parcel_packer.proofs.WholeLaws.{gathered_pushed, words_gathered}
use Rattle.parcel_packer.proofs.gathering.Gathered.add_words.Goals as goal

pub returns-clause-gathered : goal.returns-clause-gathered
returns-clause-gathered c =
    let next = c.args.self.now.next in
    let old = c.args.self.now.words.items in
    let small : next.word + c.args.count < 2 ^ 20 = omega arith in
    λ kind parcels more fill h.
    gathered_pushed kind _ old c.push_joined.new.spans.items _ _ c.in_ok-push_joined.ensures
    (words_gathered kind parcels more old next c.args.count c.args.value c.requires.empty c.requires.some small fill h)
