use Rattle.expr_forms.proofs.ParseLaws.{signed-other}
use Rattle.expr_forms.proofs.expressions.sign_in_front.Goals as goal

pub returns-else-c-eq45-clause-expression : goal.returns-else-c-eq45-clause-expression
returns-else-c-eq45-clause-expression c base =
    signed-other base c.args.text.now c.in-Some.body.now c.in-Some.c.now c.in-Some.ensures.cases.0 c.if-c-eq43.false c.if-c-eq45.false
