use Rattle.std.proofs.Common.{◌∙◌, ap, sym, refl}
use Rattle.definitions.proofs.TermLaws.{term_of}
use Rattle.expr_forms.{specs.Joins.Elements.element_as, specs.Joins.Links.operator_as, specs.Joins.Registers.register_as, proofs.SumLaws.lone-alone}
use Rattle.expr_forms.proofs.sums.with_term.Goals as goal

pub returns-in-Register : goal.returns-in-Register
returns-in-Register c sum factors alone has =
    let link = c.args.link in
    let term = term_of (operator_as link.operator) (element_as link.element) factors in
    lone-alone c.with_lone.result term (element_as link.element) (register_as c.in-Register.register) factors sum (ap element_as c.in-Register.is) (sym alone ∙ c.if-not-alone.false)
    (c.with_lone.ensures sum term refl has)
