use Rattle.std.{proofs.Common.{◌∙◌, rules}, specs.Prelude.{int_div, FitsSigned}, specs.Int.{w64, IsNonZero}, proofs.lemmas.Int.to_z-of_z}
use Rattle.expr_forms.proofs.RangeLaws.{divided, quotient-some}
use Rattle.expr_forms.proofs.arithmetic.quotient.Goals as goal

pub returns : goal.returns
returns c =
    let some : IsNonZero w64 c.args.b = search rules in
    let fits_a : FitsSigned w64 c.args.a = search rules in
    let fits_b : FitsSigned w64 c.args.b = search rules in
    let divides = simp to_z-of_z at c.checked_div.ensures in
    c.absolute_ranged.ensures (int_div c.args.a c.args.b) (divided c.checked_div.result c.args.b (int_div c.args.a c.args.b) some divides)
    ∙ quotient-some c.args.a c.args.b some
