use Rattle.std.proofs.Common.{Some, ap, sym, ◌∙◌}
use Rattle.definitions.specs.Matching.{Sum, first_fit, sum_of}
use Rattle.expr_forms.specs.Joins.Sums.{sum_from}
use Rattle.cpu_opcodes.{specs.Joins.RegistersFound.digits_as, specs.Joins.Found.fitted_as, proofs.RowLaws.sum-fits, proofs.SumLaws.no_rows-fit}
use Rattle.cpu_opcodes.proofs.sum_fits.one_fit.Goals as goal

pub returns-in-Some-clause-instruction : goal.returns-in-Some-clause-instruction
returns-in-Some-clause-instruction c =
    let of : Sum = sum_of c.args.expression.now.terms (sum_from c.args.expression.now.sign) in
    c.shape_of.ensures.instruction
    ∙ ap fitted_as (sym c.in-Some.is)
    ∙ c.first_fit.ensures of c.take_apart-sum.ensures
    ∙ ap first_fit (sum-fits c.args.operation.now (Some of) c.args.rows.now (digits_as c.named_registers.result) c.named_registers.ensures c.requires.rows)

pub returns-in-None-clause-instruction : goal.returns-in-None-clause-instruction
returns-in-None-clause-instruction c =
    let of : Sum = sum_of c.args.expression.now.terms (sum_from c.args.expression.now.sign) in
    ap fitted_as (sym c.in-None.is)
    ∙ c.first_fit.ensures of c.take_apart-sum.ensures
    ∙ ap first_fit (sum-fits c.args.operation.now (Some of) c.args.rows.now (digits_as c.named_registers.result) c.named_registers.ensures c.requires.rows)

pub returns-else-has_rows-clause-instruction : goal.returns-else-has_rows-clause-instruction
returns-else-has_rows-clause-instruction c =
    let of : Sum = sum_of c.args.expression.now.terms (sum_from c.args.expression.now.sign) in
    no_rows-fit c.args.operation.now (Some of) c.args.rows.now (sym c.has_rows.ensures ∙ c.if-has_rows.false) c.requires.rows
