-- Instructions of the code, in the words of the definitions.
use Rattle.std.specs.Prelude.{ℕ, ◌≡◌, ◌+◌, ◌*◌, List, [], ◌∷◌, Option, Some, None}
use Rattle.definitions.specs.{Expressions.Expression, Kinds.address_bits, Matching.Instruction, PeripheralTable.{PeripheralForm, PeripheralRow}}
use Rattle.definitions.specs.Matching as matching
use Rattle.definitions.specs.PeripheralTable as table
use Rattle.expr_forms.specs.declared.shapes.{Shape.Shape, Field.Field}
use Rattle.expr_forms.specs.declared.shapes.Field.TheVariants as field

-- the field of a central instruction, if it is one
abbrev pub field_as : Field → Option matching.Field
field_as field.Absent = Some matching.NoField
field_as (field.Address e) = Some (matching.OfK e)
field_as (field.Count e) = Some (matching.OfN e)
field_as _ = None

-- an instruction with these digits and a field, if there is one
abbrev pub instruction_with : ℕ → ℕ → Option matching.Field → Option Instruction
instruction_with digits count None = None
instruction_with digits count (Some field) = Some (record { digits = digits; count = count; field = field })

-- the central instruction, if it is one
abbrev pub instruction_as : Shape → Option Instruction
instruction_as shape = instruction_with shape.digits shape.digit_count (field_as shape.field)

-- m, and d if it is written
abbrev pub long_values : Expression → Option Expression → List Expression
long_values m None = m ∷ []
long_values m (Some d) = m ∷ d ∷ []

-- the form of a peripheral instruction with these values; no form has the field of a central one
abbrev pub HasForm : Field → PeripheralForm → List Expression → Type 0
HasForm field.Zero form values = (form ≡ table.Ignored) × (values ≡ [])
HasForm (field.Short d) form values = (form ≡ table.Short) × (values ≡ d ∷ [])
HasForm (field.Displacement d) form values = (form ≡ table.ShortJump) × (values ≡ d ∷ [])
HasForm (field.Shift d) form values = (form ≡ table.Shift) × (values ≡ d ∷ [])
HasForm (field.Wide value) form values = (form ≡ table.Wide) × (values ≡ value ∷ [])
HasForm (field.Long m d) form values = (form ≡ table.Long) × (values ≡ long_values m d)
HasForm _ form values = ⊥

-- the peripheral instruction of a row and its values: two digits, and a field
abbrev pub IsPeripheral : Shape → PeripheralRow → List Expression → Type 0
IsPeripheral shape row values = (shape.digits ≡ row.code) × (shape.digit_count ≡ 2) × HasForm shape.field row.form values

-- how many bits a field has
abbrev pub field_bits : Field → ℕ
field_bits field.Absent = 0
field_bits (field.Address e) = address_bits
field_bits (field.Count e) = 6
field_bits field.Zero = 6
field_bits (field.Short d) = 6
field_bits (field.Displacement d) = 6
field_bits (field.Shift d) = 6
field_bits (field.Wide value) = address_bits
field_bits (field.Long m d) = address_bits

-- how many bits an instruction has, three a digit
abbrev pub shape_bits : Shape → ℕ
shape_bits shape = 3 * shape.digit_count + field_bits shape.field
