use Rattle.std.{proofs.Common.{◌∙◌, ap, sym, subst}, specs.List.list_all}
use Rattle.definitions.specs.Expressions.{is_allowed, elements_of}
use Rattle.expr_forms.{specs.Joins.Parsed.IsPlainSum, proofs.PlainLaws.all-allowed, proofs.ElementListLaws.elements_in-links}
use Rattle.expr_forms.proofs.expressions.Expr.is_plain.Goals as goal

pub returns-then-self : goal.returns-then-self
returns-then-self c = sym (all-allowed c.args.literals (elements_of c.args.self.now) (subst IsPlainSum c.self.view_is (c.self.invariant.plain c.if-self.true)).plain)

pub returns : goal.returns
returns c = c.are_allowed.ensures ∙ ap (list_all (is_allowed c.args.literals)) (elements_in-links c.links.result c.args.self.now c.links.ensures.links)
