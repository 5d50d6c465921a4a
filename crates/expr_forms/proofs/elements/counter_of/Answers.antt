use Rattle.std.proofs.Common.{sym}
use Rattle.expr_forms.proofs.ElementLaws.{counter-length}
use Rattle.expr_forms.proofs.elements.counter_of.Goals as goal

pub returns-then-run-ne1 : goal.returns-then-run-ne1
returns-then-run-ne1 c = sym (counter-length c.args.run.now c.if-run-ne1.true)
