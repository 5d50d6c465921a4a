use Rattle.std.proofs.Common.{[], true, refl, arith}
use Rattle.definitions.proofs.TermLaws.{JoinsTerms}
use Rattle.expr_forms.{specs.Joins.Elements.sign_as, specs.Joins.Links.link_as, proofs.LoneLaws.joins-shown, proofs.PlainLaws.read-plain}
use Rattle.expr_forms.proofs.expressions.Expr.of_link.Goals as goal

pub invariant_of-result : goal.invariant_of-result
invariant_of-result c =
    let link = link_as c.args.link in
    let joins : JoinsTerms link.operator = joins-shown link.operator c.requires in
    record {
      lawful = record { lawful = refl; short = omega arith; begins = joins };
      plain = read-plain c.args.base (sign_as c.args.sign) link [] true c.is_allowed.result joins refl c.is_allowed.ensures;
    }
