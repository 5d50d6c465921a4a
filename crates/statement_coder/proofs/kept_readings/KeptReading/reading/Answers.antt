-- What is spelt is read again, and so is the operand.
use Rattle.std.proofs.Common.{◌≡◌, ◌∙◌, ap, sym, subst, rules}
use Rattle.definitions.specs.Operands.{operand_of}
use Rattle.operations.specs.Joins.OperationsAs.{operation_as}
use Rattle.statement_coder.{specs.Joins.KeptReadings.IsKeptReading, specs.Joins.Readings.IsReading, specs.declared.kept_readings.KeptReading.KeptReading, specs.declared.spellings.Spelling.Spelling, proofs.CodingLaws.read_whole, proofs.OperandLaws.operand_of-fills}
use Rattle.statement_coder.proofs.kept_readings.KeptReading.reading.Goals as goal

pub returns-in-Spelt-clause-reading : goal.returns-in-Spelt-clause-reading
returns-in-Spelt-clause-reading c = λ operand kept.
    let text = c.in-Spelt.spelling.value in
    let operation = operation_as c.args.operation in
    let here : c.deref.result.now ≡ text = search rules in
    let spelt : operand ≡ operand_of c.args.kind text.base operation text.name.items text.variable.items =
    subst (λ (reading : KeptReading). IsKeptReading c.args.kind operation reading operand) c.in-Spelt.is kept in
    subst (IsReading c.reading.result) (ap (λ (spelling : Spelling). operand_of c.args.kind spelling.base operation spelling.name.items spelling.variable.items) here ∙ sym spelt) c.reading.ensures.reading

pub returns-in-Spelt-clause-whole : goal.returns-in-Spelt-clause-whole
returns-in-Spelt-clause-whole c =
    let operation = operation_as c.args.operation in
    let text = c.deref.result.now in
    read_whole c.args.kind c.reading.result (operand_of c.args.kind text.base operation text.name.items text.variable.items) c.reading.ensures.reading
    (operand_of-fills c.args.kind text.base operation text.name.items text.variable.items)
