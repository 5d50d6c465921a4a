use Rattle.std.{proofs.Common.{◌∙◌, ap, sym, subst}, specs.Prelude.filter_map}
use Rattle.definitions.specs.{Expressions.elements_of, Literals.literal_in}
use Rattle.expr_forms.{specs.Joins.ElementLists.literals_among, specs.Joins.Parsed.IsPlainSum, proofs.PlainLaws.no-literals, proofs.ElementListLaws.elements_in-links}
use Rattle.expr_forms.proofs.expressions.Expr.literals.Goals as goal

pub returns-then-self : goal.returns-then-self
returns-then-self c =
    ap literals_among c.none.ensures
    ∙ sym (no-literals (elements_of c.args.self.now) (subst IsPlainSum c.self.view_is (c.self.invariant.plain c.if-self.true)).plain)

pub returns : goal.returns
returns c = ap (filter_map literal_in) (elements_in-links c.links.result c.args.self.now c.links.ensures.links)
