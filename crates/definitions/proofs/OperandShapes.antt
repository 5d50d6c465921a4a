-- What is known of operands as they are read: their digits, their codes, their widths, their lengths.
use Rattle.std.proofs.Common.{◌≡◌, ◌+◌, ◌*◌, ◌%◌, ◌^◌, ◌<◌, ◌≤◌, List, [], ◌∷◌, length}
use Rattle.definitions.specs.{Kinds.unit_bits, Expressions.Expression, PeripheralTable.{PeripheralForm, Wide, Long}, Matching.Instruction, Operands.{Operand, CentralOperand, PeripheralOperand, BitsOperand, TextOperand, BitField, word_characters}, Sizes.field_width, declared.deck_kind.DeckKind.DeckKind}

-- the digits have their room, at most ten, and with the field they fill whole parcels
pub record IsWhole (instruction : Instruction) : Type 0 where
  pub room : instruction.digits < 8 ^ instruction.count
  pub few : instruction.count ≤ 10
  pub fills : (3 * instruction.count + field_width instruction.field) % 15 ≡ 0

-- a form that wants a second word has a value for it
abbrev pub HasValues : PeripheralForm → List Expression → Type 0
HasValues Wide [] = ⊥
HasValues Long [] = ⊥
HasValues form values = Unit {0}

-- each field of a VFD has 1 to 60 bits
abbrev pub HaveWidths : List BitField → Type 0
HaveWidths [] = Unit {0}
HaveWidths (field ∷ fields) = ((1 ≤ field.width) × (field.width ≤ 60)) × HaveWidths fields

-- what an operand of a deck of this kind is made of
abbrev pub IsMade : DeckKind → Operand → Type 0
IsMade kind (CentralOperand instruction) = (unit_bits kind ≡ 15) × IsWhole instruction
IsMade kind (PeripheralOperand row values) = (unit_bits kind ≡ 12) × ((row.code < 64) × HasValues row.form values)
IsMade kind (BitsOperand fields) = HaveWidths fields
IsMade kind (TextOperand count characters) = length characters ≤ count * word_characters kind
IsMade kind _ = Unit {0}
