use Rattle.std.proofs.Common.{arith, ap, ◌∙◌, length}
use Rattle.session_line.proofs.FoundSteps.{Appends-found, found-length, part-found}
use Rattle.session_line.proofs.writing.write_found.Goals as goal

pub returns-in-Err-clause-sends : goal.returns-in-Err-clause-sends
returns-in-Err-clause-sends g c =
    part-found _ _ _ c.args.text.now c.args.cards.now c.loop-place.place c.loop-place.sent c.in-Err.broken.sent c.index-cards-place.result c.as_slice-bytes.result.now
    c.loop-place-test.true c.index-cards-place.is (c.as_slice-bytes.ensures.value ∙ c.found_line-line.ensures) c.loop-place.invariant.count c.loop-place.invariant.lines c.in-Err.ensures.prefix

pub loop-place-preserved : goal.loop-place-preserved
loop-place-preserved g c =
    let same = c.as_slice-bytes.ensures.value ∙ c.found_line-line.ensures in
    record {
      lines =
          Appends-found _ _ _ c.args.text.now c.args.cards.now c.loop-place.place c.index-cards-place.result c.as_slice-bytes.result.now c.loop-place-test.true c.index-cards-place.is same
          c.loop-place.invariant.lines c.in_default.ensures.all;
      count = found-length c.args.text.now c.args.cards.now c.loop-place.place c.loop-place.sent c.index-cards-place.result c.as_slice-bytes.result.now c.loop-place-test.true c.index-cards-place.is same c.loop-place.invariant.count;
      few = omega (arith, c.loop-place.invariant.few, c.as_slice-bytes.ensures.short, ap length c.as_slice-bytes.ensures.value);
      sound = c.in_default.ensures.no_fault ∙ c.loop-place.invariant.sound;
    }
