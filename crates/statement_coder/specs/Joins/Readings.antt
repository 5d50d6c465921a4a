-- What was read in a variable field, in the words of the definitions.
use Rattle.std.specs.{Prelude.{ℕ, ◌≡◌, ◌*◌, ◌/◌, ⊤, Bool, true, false, List, [], Option, Some, None, MatchOption, flat_map, length}, List.AllByRecursion}
use Rattle.definitions.specs.{Kinds.word_bits, Literals.datum_literals, Symbols.is_linked_name, declared.deck_kind.DeckKind.DeckKind}
use Rattle.definitions.specs.Operands as definitions
use Rattle.expr_forms.specs.{Joins.Readings.use_as, Joins.Shapes.{instruction_as, IsPeripheral}, declared.dis_fields.DisText.DisText, declared.shapes.Shape.Shape}
use Rattle.statement_coder.specs.declared.readings.Reading as code
use Rattle.statement_coder.specs.declared.readings.Reading.TheVariants as reading

-- an instruction of either table
abbrev pub IsInstruction : Shape → definitions.Operand → Type 0
IsInstruction shape (definitions.CentralOperand instruction) = instruction_as shape ≡ Some instruction
IsInstruction shape (definitions.PeripheralOperand row values) = IsPeripheral shape row values
IsInstruction shape _ = ⊥

-- what was read is this operand
abbrev pub IsReading : code.Reading → definitions.Operand → Type 0
IsReading reading.Unread operand = operand ≡ definitions.Unread
IsReading reading.Bad operand = operand ≡ definitions.BadOperand
IsReading (reading.Instruction shape) operand = IsInstruction shape operand
IsReading (reading.Data words) operand = operand ≡ definitions.WordsOperand words
IsReading (reading.Con words) operand = operand ≡ definitions.WordsOperand words
IsReading (reading.Vfd fields) operand = operand ≡ definitions.BitsOperand fields
IsReading (reading.Text text) operand = operand ≡ definitions.TextOperand text.words text.characters
IsReading (reading.Value e) operand = operand ≡ definitions.ValueOperand e
IsReading (reading.Names names) operand = operand ≡ definitions.NamesOperand names
IsReading (reading.Use field) operand = operand ≡ use_as field

-- whether it is that of an ENTRY or EXT
abbrev pub has_names : code.Reading → Bool
has_names (reading.Names names) = true
has_names _ = false

-- whether it takes no early value and changes no block
abbrev pub is_plain : code.Reading → Bool
is_plain (reading.Value e) = false
is_plain (reading.Use field) = false
is_plain _ = true

-- the text of a DIS
abbrev pub text_in : code.Reading → Option DisText
text_in (reading.Text text) = Some text
text_in _ = None

-- whether it has fields to be put behind a list: it is that of a DATA, CON, VFD or DIS
abbrev pub is_listed : code.Reading → Bool
is_listed (reading.Data words) = true
is_listed (reading.Con words) = true
is_listed (reading.Vfd fields) = true
is_listed (reading.Text text) = true
is_listed _ = false

-- it fills its words
abbrev pub IsWhole : DeckKind → code.Reading → Type 0
IsWhole kind found = MatchOption (text_in found) ⊤ (λ (text : DisText). length text.characters ≡ text.words * (word_bits kind / 6))

-- a name of ENTRY or EXT, where there is one, is lawful
abbrev pub IsLawfulName : Option (List ℕ) → Type 0
IsLawfulName None = ⊤
IsLawfulName (Some name) = is_linked_name name ≡ true

-- DATA has no literals, and the names of ENTRY and EXT are lawful
abbrev pub IsLawful : code.Reading → Type 0
IsLawful (reading.Data words) = flat_map datum_literals words ≡ []
IsLawful (reading.Names names) = AllByRecursion IsLawfulName names
IsLawful _ = ⊤
