-- The operand of a copy of its text is the operand.
use Rattle.std.proofs.Common.{◌∙◌, ap, ap₂, sym}
use Rattle.definitions.specs.Operands.{operand_of}
use Rattle.operations.specs.Joins.OperationsAs.{operation_as}
use Rattle.statement_coder.specs.declared.spellings.Spelling.{Spelling}
use Rattle.statement_coder.proofs.kept_readings.KeptReading.spelt.Goals as goal

pub returns : goal.returns
returns c = λ operand is.
    let code = c.args.statement.now in
    let operation = operation_as code.operation in
    is ∙ ap₂ (operand_of code.kind c.args.base operation) (sym c.in_ok-name.ensures.items) (sym c.in_ok-variable.ensures.items)
    ∙ ap (λ (text : Spelling). operand_of code.kind text.base operation text.name.items text.variable.items) (sym c.in_ok-new.ensures.ok)
