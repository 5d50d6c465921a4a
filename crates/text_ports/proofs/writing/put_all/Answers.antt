use Rattle.std.proofs.Common.{arith, rules}
use Rattle.text_ports.proofs.WritingSteps.{Appends-more}
use Rattle.text_ports.proofs.writing.put_all.Goals as goal

pub loop-sent-preserved : goal.loop-sent-preserved
loop-sent-preserved g c = record {
  within = omega (arith, c.in-Some.ensures.bytes.1, c.split_at.ensures.back_len);
  prefix = Appends-more _ _ _ _ _ _ c.loop-sent.invariant.prefix (rw c.split_at.ensures.back at c.in-Some.ensures.bytes.2);
  sound = search rules;
}
