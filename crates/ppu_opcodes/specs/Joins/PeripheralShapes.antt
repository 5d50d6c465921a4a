-- Operands of peripheral instructions, found for the code's instructions (6600 reference 60100000, peripheral instructions).
use Rattle.std.specs.Prelude.{◌≡◌, List, [], ◌∷◌, Option, Some, None, Bool, true, false}
use Rattle.definitions.specs.{Expressions.Expression, PeripheralTable.{PeripheralForm, PeripheralRow}, declared.letter.Letter.Letter, declared.letter.Letter.TheVariants.{O, V}}
use Rattle.definitions.specs.PeripheralTable as table
use Rattle.definitions.specs.Operands as operand
use Rattle.expr_forms.specs.{declared.shapes.Shape.Shape, declared.shapes.Field.Field, Joins.Shapes.{HasForm, IsPeripheral}}

-- an operand of a peripheral instruction, with the digits and the field of a shape
abbrev pub IsFound : Shape → operand.Operand → Type 0
IsFound shape (operand.PeripheralOperand row values) = IsPeripheral shape row values
IsFound shape _ = ⊥

-- the field of a form with its values, where that is what an operand is; no field where it is bad
abbrev pub IsFieldOf : Option Field → PeripheralRow → operand.Operand → Type 0
IsFieldOf None row found = found ≡ operand.BadOperand
IsFieldOf (Some field) row (operand.PeripheralOperand other values) = (other ≡ row) × HasForm field row.form values
IsFieldOf (Some field) row _ = ⊥

-- O where the table has no row of an operation, else V
abbrev pub fault_of : Option PeripheralRow → Letter
fault_of None = O
fault_of (Some row) = V

-- whether a form reads nothing
abbrev pub is_ignored : PeripheralForm → Bool
is_ignored table.Ignored = true
is_ignored _ = false

-- whether there is a row, and its operand is not read
abbrev pub is_ignoring : Option PeripheralRow → Bool
is_ignoring None = false
is_ignoring (Some row) = is_ignored row.form

-- one value and no more
abbrev pub only_value : List (Option Expression) → Option Expression
only_value (Some d ∷ []) = Some d
only_value _ = None
