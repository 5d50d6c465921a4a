-- What coding takes of a statement, in the words of the definitions.
use Rattle.std.specs.Prelude.{◌≡◌}
use Rattle.definitions.specs.Settled.{Settled}
use Rattle.operations.specs.Joins.OperationsAs.{operation_as}
use Rattle.statement_coder.specs.{Joins.Readings.IsReading, declared.read_operands.ReadOperand.ReadOperand}

-- the operation and the operand of a settled statement
pub record IsReadOperand (read : ReadOperand) (settled : Settled) : Type 0 where
  pub operation : settled.read.operation ≡ operation_as read.operation
  pub operand : IsReading read.reading settled.read.operand
