-- The literals of an operand that was read, and what one without literals and names gives to its deck.
use Rattle.std.proofs.Common.{◌≡◌, ℕ, true≢false, false, Option, Some, None, List, [], refl, sym, ap, ◌∙◌}
use Rattle.definitions.specs.{Expressions.{Expression, Literal}, Literals.{field_literals, operand_literals}, Matching.Instruction, Operands.{Operand, CentralOperand, PeripheralOperand, NamesOperand}, PeripheralTable.PeripheralForm, Settling.View}
use Rattle.definitions.specs.Operands as operands
use Rattle.expr_forms.specs.{Joins.Readings.use_as, Joins.Shapes.{field_as, instruction_with, HasForm}, declared.shapes.Shape.Shape}
use Rattle.expr_forms.specs.declared.use_fields.UseField as uses
use Rattle.expr_forms.specs.declared.use_fields.UseField.TheVariants as use_field
use Rattle.expr_forms.specs.declared.shapes.Field as code
use Rattle.expr_forms.specs.declared.shapes.Field.TheVariants as field
use Rattle.statement_coder.specs.Joins.Readings.{has_names, IsInstruction, IsLawful, IsReading}
use Rattle.statement_coder.specs.declared.definitions_made.Defines as made
use Rattle.statement_coder.specs.declared.definitions_made.Defines.TheVariants as defines
use Rattle.statement_coder.specs.declared.readings.Reading as readings
use Rattle.statement_coder.specs.declared.readings.Reading.TheVariants as reading
use Rattle.deck_assembler.specs.Joins.{FirstSymbols.{with_defined, with_names, IsLawfulOperand}, LiteralsRead.{read_literals, shape_literals, IsBareOperand}, OperandNames.names_in, SharedNames.{with_new_by, with_new_of}}

-- the literals of an instruction, if there is one
literals_found : Option Instruction → List Literal
literals_found None = []
literals_found (Some instruction) = field_literals instruction.field

central-literals : (digits count : ℕ) (f : code.Field) (instruction : Instruction) → instruction_with digits count (field_as f) ≡ Some instruction → field_literals instruction.field ≡ shape_literals f
unfolding literals_found
central-literals digits count field.Absent instruction e = sym (ap literals_found e)
central-literals digits count (field.Address x) instruction e = sym (ap literals_found e)
central-literals digits count (field.Count x) instruction e = sym (ap literals_found e)
central-literals digits count _ instruction e = sym (ap literals_found e)

peripheral-literals : (f : code.Field) (form : PeripheralForm) (values : List Expression) → HasForm f form values → [] ≡ shape_literals f
peripheral-literals field.Absent form values h = refl
peripheral-literals (field.Address x) form values h = absurd h
peripheral-literals (field.Count x) form values h = absurd h
peripheral-literals _ form values h = refl

shape-literals : (shape : Shape) (operand : Operand) → IsInstruction shape operand → operand_literals operand ≡ shape_literals shape.field
shape-literals shape (CentralOperand instruction) h = central-literals shape.digits shape.digit_count shape.field instruction h
shape-literals shape (PeripheralOperand row values) h = peripheral-literals shape.field row.form values h.2
shape-literals shape _ h = absurd h

shape-names : (shape : Shape) (operand : Operand) → IsInstruction shape operand → names_in operand ≡ None
shape-names shape (CentralOperand instruction) h = refl
shape-names shape (PeripheralOperand row values) h = refl
shape-names shape _ h = absurd h

use-literals : (x : uses.UseField) → operand_literals (use_as x) ≡ []
use-literals (use_field.UseName name) = refl
use-literals use_field.UseBefore = refl
use-literals use_field.Refused = refl
use-literals use_field.Bad = refl

use-names : (x : uses.UseField) → names_in (use_as x) ≡ None
use-names (use_field.UseName name) = refl
use-names use_field.UseBefore = refl
use-names use_field.Refused = refl
use-names use_field.Bad = refl

-- what was read shows the literals of its operand
pub literals-read : (read : readings.Reading) (operand : Operand) → IsReading read operand → IsLawful read → operand_literals operand ≡ read_literals read
literals-read reading.Unread operand h l = ap operand_literals h
literals-read reading.Bad operand h l = ap operand_literals h
literals-read (reading.Instruction shape) operand h l = shape-literals shape operand h
literals-read (reading.Data words) operand h l = ap operand_literals h ∙ l
literals-read (reading.Con words) operand h l = ap operand_literals h
literals-read (reading.Vfd fields) operand h l = ap operand_literals h
literals-read (reading.Text text) operand h l = ap operand_literals h
literals-read (reading.Value x) operand h l = ap operand_literals h
literals-read (reading.Names names) operand h l = ap operand_literals h
literals-read (reading.Use x) operand h l = ap operand_literals h ∙ use-literals x

names-read : (read : readings.Reading) (operand : Operand) → IsReading read operand → has_names read ≡ false → names_in operand ≡ None
names-read reading.Unread operand h e = ap names_in h
names-read reading.Bad operand h e = ap names_in h
names-read (reading.Instruction shape) operand h e = shape-names shape operand h
names-read (reading.Data words) operand h e = ap names_in h
names-read (reading.Con words) operand h e = ap names_in h
names-read (reading.Vfd fields) operand h e = ap names_in h
names-read (reading.Text text) operand h e = ap names_in h
names-read (reading.Value x) operand h e = ap names_in h
names-read (reading.Names names) operand h e = absurd (true≢false e)
names-read (reading.Use x) operand h e = ap names_in h ∙ use-names x

-- what was read without literals and names is an operand without these
pub bare-read : (read : readings.Reading) (operand : Operand) → IsReading read operand → IsLawful read → read_literals read ≡ [] → has_names read ≡ false → IsBareOperand operand
bare-read read operand h l none silent = record { literals = literals-read read operand h l ∙ none; names = names-read read operand h silent }

-- such an operand gives no names
pub bare-lawful : (operand : Operand) → names_in operand ≡ None → IsLawfulOperand operand
bare-lawful (NamesOperand names) e = absurd cc
bare-lawful operand e = tt

bare-names : (operand : Operand) (v : View) → names_in operand ≡ None → v ≡ with_names operand v
bare-names (NamesOperand names) v e = absurd cc
bare-names operand v e = refl

bare-new : (operand : Operand) (v : View) (so_far : List (List ℕ)) → names_in operand ≡ None → so_far ≡ with_new_of operand v so_far
bare-new (NamesOperand names) v so_far e = absurd cc
bare-new operand v so_far e = refl

-- what a statement defines does not come from it
pub bare-defined : (location : List ℕ) (operand : Operand) (what : made.Defines) (v : View) → names_in operand ≡ None → with_defined location operands.Unread what v ≡ with_defined location operand what v
bare-defined location operand defines.Nothing v e = refl
bare-defined location operand (defines.Symbol form) v e = refl
bare-defined location operand defines.Externals v e = bare-names operand v e

-- nor do the externals that it defines
pub bare-externals : (operand : Operand) (what : made.Defines) (v : View) (so_far : List (List ℕ)) → names_in operand ≡ None → so_far ≡ with_new_by operand what v so_far
bare-externals operand defines.Nothing v so_far e = refl
bare-externals operand (defines.Symbol form) v so_far e = refl
bare-externals operand defines.Externals v so_far e = bare-new operand v so_far e
