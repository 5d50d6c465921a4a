use Rattle.definitions.specs.Operands.{operand_of}
use Rattle.operations.specs.Joins.OperationsAs.{operation_as}
use Rattle.statement_coder.proofs.{OperandLaws.operand_of-fills, CodingLaws.read_whole}
use Rattle.statement_coder.proofs.statement.Statement.read_operand.Goals as goal

pub invariant_of-result : goal.invariant_of-result
invariant_of-result c =
    let code = c.args.self.now in
    record {
      whole = read_whole code.kind c.read_operand.result (operand_of code.kind c.args.base (operation_as code.operation) code.name.now code.variable.now) c.read_operand.ensures.reading
          (operand_of-fills code.kind c.args.base (operation_as code.operation) code.name.now code.variable.now);
    }
