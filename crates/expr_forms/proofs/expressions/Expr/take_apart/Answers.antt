use Rattle.std.proofs.Common.{◌≡◌, List, [], ◌∙◌, ap, sym, subst}
use Rattle.definitions.{specs.Expressions.{Sign, Term}, specs.Matching.{Sum, sum_of, sum_field}, proofs.ExpressionLaws.expression_with}
use Rattle.expr_forms.{specs.Joins.Elements.sign_as, specs.Joins.LoneRegisters.other_terms, specs.Joins.Parsed.IsPlainSum, proofs.PlainLaws.plain-sum, specs.Joins.Sums.{HasParts, sum_from, field_of}, proofs.SumLaws.{sum-others, field-some, field-none}, proofs.expressions.Expr.take_apart.Goals.{then-parts, else-parts}}
use Rattle.expr_forms.proofs.expressions.Expr.take_apart.Goals as goal

pub returns-then-self : goal.returns-then-self
returns-then-self c =
    let e = c.args.self.now in
    let is : IsPlainSum e = subst IsPlainSum c.self.view_is (c.self.invariant.plain c.if-self.true) in
    let same : sum_of e.terms (sum_from e.sign) ≡ record { sign = e.sign; registers = []; others = e.terms } = plain-sum e.terms (sum_from e.sign) is.plain in (
      c.new.ensures ∙ sym (ap (λ (s : Sum). s.registers) same),
      field-some e.sign e.terms c.copied.result is.some c.copied.ensures ∙ sym (ap (λ (s : Sum). sum_field s.sign s.others) same),
    )

pub returns : goal.returns
returns c =
    let parts = c.parts_of-parts.result in
    let e = c.args.self.now in
    let sum : Sum = sum_of e.terms (sum_from e.sign) in
    let has : HasParts parts sum =
    subst (λ (s : Sign). HasParts parts (sum_of e.terms (sum_from s))) c.sign.ensures
    (subst (λ (t : List Term). HasParts parts (sum_of t (sum_from (sign_as c.sign.result)))) c.links.ensures.grouped c.parts_of-parts.ensures) in (
      has.1,
      elim c.if-parts.branch [
        | then-parts w ↦
            ap field_of w.others-is
            ∙ field-some sum.sign sum.others w.without_registers.result (sym has.2 ∙ w.if-parts.true)
            (w.without_registers.ensures
            ∙ (ap (λ (s : Sign). expression_with s (other_terms e.terms)) has.0
            ∙ ap (expression_with sum.sign) (sym (sum-others e.terms (sum_from e.sign)))))
        | else-parts w ↦ ap field_of w.others-is ∙ field-none sum.sign sum.others (sym has.2 ∙ w.if-parts.false)
      ],
    )
