use Rattle.std.proofs.Common.{◌∷◌, ◌∙◌, ap, sym}
use Rattle.definitions.{specs.Expressions.{Expression, grouped}, proofs.ExpressionLaws.expression_with}
use Rattle.expr_forms.{specs.Joins.Elements.sign_as, specs.Joins.Links.{link_made, links_behind}, specs.Joins.LoneRegisters.other_terms, proofs.LoneLaws.left-again}
use Rattle.expr_forms.proofs.expressions.Expr.without_registers.Goals as goal

pub returns-in-None : goal.returns-in-None
returns-in-None c =
    let self = c.self.inside in
    ap (expression_with (sign_as c.args.sign))
    (sym (left-again self.registers (grouped (link_made self.operator self.element ∷ links_behind self.base self.rest.now)).terms)
    ∙ ap (λ (e : Expression). other_terms e.terms) c.self.view_is)

pub returns-in-Some : goal.returns-in-Some
returns-in-Some c = c.of_link.ensures ∙ ap (expression_with (sign_as c.args.sign)) (sym c.in-Some.ensures.other)
