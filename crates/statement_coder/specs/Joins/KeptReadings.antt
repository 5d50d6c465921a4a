-- What is kept of an operand, in the words of the definitions.
use Rattle.std.specs.Prelude.{◌≡◌, Bool, true, false, [], flat_map}
use Rattle.definitions.specs.{Literals.datum_literals, Operations.Operation, declared.deck_kind.DeckKind.DeckKind}
use Rattle.definitions.specs.Operands as definitions
use Rattle.expr_forms.specs.Joins.{Kept.shape_of, Readings.use_as}
use Rattle.statement_coder.specs.{Joins.Readings.IsInstruction, declared.readings.Reading.Reading}
use Rattle.statement_coder.specs.declared.kept_readings.KeptReading as code
use Rattle.statement_coder.specs.declared.kept_readings.KeptReading.TheVariants as kept
use Rattle.statement_coder.specs.declared.readings.Reading.TheVariants as reading

-- whether what was read has no text
abbrev pub has_no_text : Reading → Bool
has_no_text reading.Unread = true
has_no_text reading.Bad = true
has_no_text (reading.Use field) = true
has_no_text _ = false

-- what was kept is this operand of an operation
abbrev pub IsKeptReading : DeckKind → Operation → code.KeptReading → definitions.Operand → Type 0
IsKeptReading kind operation (kept.Spelt text) operand =
    operand ≡ definitions.operand_of kind text.value.base operation text.value.name.items text.value.variable.items
IsKeptReading kind operation kept.Unread operand = operand ≡ definitions.Unread
IsKeptReading kind operation kept.Bad operand = operand ≡ definitions.BadOperand
IsKeptReading kind operation (kept.Instruction shape) operand = IsInstruction (shape_of shape) operand
IsKeptReading kind operation (kept.Data words) operand = (operand ≡ definitions.WordsOperand words) × (flat_map datum_literals words ≡ [])
IsKeptReading kind operation (kept.Vfd fields) operand = operand ≡ definitions.BitsOperand fields
IsKeptReading kind operation (kept.Value e) operand = operand ≡ definitions.ValueOperand e
IsKeptReading kind operation (kept.Use field) operand = operand ≡ use_as field
