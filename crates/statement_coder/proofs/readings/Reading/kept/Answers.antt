use Rattle.std.{proofs.Common.{◌∙◌, true≢false, ap, sym}, specs.Prelude.is_some}
use Rattle.operations.specs.Joins.OperationsAs.{operation_as}
use Rattle.statement_coder.proofs.readings.Reading.kept.Goals as goal

pub returns-in-Some-clause-kept : goal.returns-in-Some-clause-kept
returns-in-Some-clause-kept c = λ operand is lawful spelt. c.in-Some.ensures.kept c.args.statement.now.kind (operation_as c.args.statement.now.operation) operand is lawful

pub returns-in_ok-spelt-in-None-clause-kept : goal.returns-in_ok-spelt-in-None-clause-kept
returns-in_ok-spelt-in-None-clause-kept c = λ operand is lawful spelt. c.in_ok-spelt-in-None.ensures operand spelt

pub returns-in_err-spelt-in-None-clause-needs_none : goal.returns-in_err-spelt-in-None-clause-needs_none
returns-in_err-spelt-in-None-clause-needs_none c = λ none. absurd (true≢false (sym (c.in_few_bytes.ensures.some none) ∙ ap is_some c.in-None.is))
