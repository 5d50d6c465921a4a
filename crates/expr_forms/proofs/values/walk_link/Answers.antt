use Rattle.std.proofs.Common.{subst, sym}
use Rattle.definitions.proofs.TermLaws.{JoinsFactors}
use Rattle.expr_forms.specs.{Joins.Links.operator_as, declared.links.Operator.Operator}
use Rattle.expr_forms.proofs.values.walk_link.Goals as goal

pub returns-in-Times-clause-next : goal.returns-in-Times-clause-next
returns-in-Times-clause-next g c pairs = c.walk_factor.ensures.next (subst (λ (o : Operator). JoinsFactors (operator_as o)) (sym c.in-Times.is) tt) pairs c.args.room.now

pub returns-in-Divide-clause-next : goal.returns-in-Divide-clause-next
returns-in-Divide-clause-next g c pairs = c.walk_factor-in-Divide.ensures.next (subst (λ (o : Operator). JoinsFactors (operator_as o)) (sym c.in-Divide.is) tt) pairs c.args.room.now
