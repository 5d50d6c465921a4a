-- The literals of what was read in a variable field.
use Rattle.std.specs.Prelude.{◌≡◌, List, [], None, flat_map}
use Rattle.definitions.specs.{Expressions.Literal, Literals.{datum_literals, literals_in, operand_literals, value_literals}, Operands.{BitField, Operand}}
use Rattle.deck_assembler.specs.Joins.OperandNames.{names_in}
use Rattle.expr_forms.specs.declared.shapes.Field as code
use Rattle.expr_forms.specs.declared.shapes.Field.TheVariants as field
use Rattle.statement_coder.specs.declared.readings.Reading as readings
use Rattle.statement_coder.specs.declared.readings.Reading.TheVariants as reading

-- the literals in K or n of an instruction
abbrev pub shape_literals : code.Field → List Literal
shape_literals (field.Address e) = literals_in e
shape_literals (field.Count e) = literals_in e
shape_literals _ = []

-- the literals in a field of a VFD
abbrev pub bit_literals : BitField → List Literal
bit_literals field = value_literals field.value

-- the literals of an operand that was read; DATA has none
abbrev pub read_literals : readings.Reading → List Literal
read_literals (reading.Instruction shape) = shape_literals shape.field
read_literals (reading.Con words) = flat_map datum_literals words
read_literals (reading.Vfd fields) = flat_map bit_literals fields
read_literals _ = []

-- an operand has neither literals nor names
pub record IsBareOperand (operand : Operand) : Type 0 where
  pub literals : operand_literals operand ≡ []
  pub names : names_in operand ≡ None
