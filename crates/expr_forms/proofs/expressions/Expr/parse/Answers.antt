use Rattle.std.{proofs.Common.{◌≡◌, Some, ◌∙◌, sym, subst, arith}, specs.Prelude.option_map}
use Rattle.definitions.proofs.{ExpressionLaws.operator_of-joins, TermLaws.JoinsTerms}
use Rattle.expr_forms.{specs.Joins.Elements.{sign_as}, specs.Joins.Links.{link_made, pairs_behind}, specs.Joins.Parsed.{are_plain}, proofs.PlainLaws.{read-plain, told-some, told-plain}}
use Rattle.expr_forms.proofs.expressions.Expr.parse.Goals as goal

pub invariant_of-result : goal.invariant_of-result
invariant_of-result c =
    let sign = sign_as c.sign_in_front-signed.result.sign in
    let first = link_made c.first_operator.result c.in-Some.found.element in
    let rest = c.in-Some.found.rest.now in
    let behind = pairs_behind c.args.base rest in
    let told : Some c.in-Some-are_plain.plain ≡ option_map are_plain behind = sym c.in-Some-are_plain.is ∙ c.are_plain.ensures in
    let joins : JoinsTerms first.operator = subst JoinsTerms (sym c.first_operator.ensures) (operator_of-joins sign) in
    record {
      lawful =
          record {
            lawful = told-some behind c.in-Some-are_plain.plain told;
            short = omega (arith, c.in-Some.ensures.shorter, c.sign_in_front-signed.ensures.within, c.requires);
            begins = joins;
          };
      plain =
          read-plain c.args.base sign first rest c.in-Some-are_plain.plain c.is_allowed.result joins
          (told-plain behind c.in-Some-are_plain.plain told)
          c.is_allowed.ensures;
    }
