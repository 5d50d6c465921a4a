use Rattle.std.proofs.{Common.{arith, length, length-append}}
use Rattle.deck_linker.{specs.Joins.InPieces.{deck_text}, proofs.InPieceLaws.fit-more, proofs.ListedLaws.listings-split}
use Rattle.deck_linker.proofs.measuring.measure_listed.Goals as goal

pub loop-object-preserved : goal.loop-object-preserved
loop-object-preserved c =
    let objects = c.args.objects.now in
    let i = c.loop-object.object-index in
    let deck = c.object-item.result in
    let split = listings-split length length-append objects i deck c.loop-object-test.true c.object-item.is in
    record {
      all = omega (arith, c.loop-object.invariant.all, c.in_ok-measure.ensures.all, split, c.len.ensures);
      fit = fit-more deck_text objects i deck c.loop-object.measure.most c.in_ok-measure.measure.most c.loop-object-test.true c.object-item.is c.loop-object.invariant.fit c.in_ok-measure.ensures.most
          (omega (arith, c.in_ok-measure.ensures.fits, c.len.ensures));
    }
