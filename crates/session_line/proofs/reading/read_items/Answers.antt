use Rattle.std.proofs.Common.{◌∙◌}
use Rattle.session_line.proofs.TakingSteps.{TakesItems-more}
use Rattle.session_line.proofs.reading.read_items.Goals as goal

pub loop-number-preserved : goal.loop-number-preserved
loop-number-preserved g c = record {
  taken =
      TakesItems-more _ _ _ _ _ c.loop-number.items c.with_line-items.result c.take_line.new.line c.as_slice.result.now c.loop-number.invariant.taken
      c.in_ok-take_line.ensures.line c.as_slice.ensures.value c.with_line-items.ensures;
  sound = c.in_ok-take_line.ensures.count ∙ c.loop-number.invariant.sound;
}
