-- Sizes: how many parcels or peripheral words an operand fills (6600 reference 60100000, instruction formats; COMPASS 60492600, data generation).
use Rattle.std.specs.Prelude.{ℕ, ◌+◌, ◌-◌, ◌*◌, ◌/◌, List, [], ◌∷◌}
use Rattle.definitions.specs.{Coding.words_needed, PeripheralTable.{PeripheralForm, Wide, Long}, Matching.{Field, NoField, OfK, OfN}, Operands.{Operand, CentralOperand, PeripheralOperand, WordsOperand, BitsOperand, TextOperand, Datum, CountedItemWords, BitField}, Kinds.{word_bits, units, address_bits}, declared.deck_kind.DeckKind.DeckKind}

-- how many words a piece of DATA or CON fills
abbrev pub datum_words : DeckKind → Datum → ℕ
datum_words kind (CountedItemWords item) = words_needed (word_bits kind) item
datum_words kind _ = 1

-- how many words the subfields of DATA or CON fill
abbrev pub data_words : DeckKind → List Datum → ℕ
data_words kind [] = 0
data_words kind (datum ∷ data') = datum_words kind datum + data_words kind data'

-- how many bits the fields of a VFD have together
abbrev pub bits_of : List BitField → ℕ
bits_of [] = 0
bits_of (field ∷ fields) = field.width + bits_of fields

-- 18 bits for K and 6 for n
abbrev pub field_width : Field → ℕ
field_width NoField = 0
field_width (OfK e) = address_bits
field_width (OfN e) = 6

-- how many words a peripheral instruction has: two where a value needs the second
abbrev pub form_units : PeripheralForm → ℕ
form_units Wide = 2
form_units Long = 2
form_units _ = 1

-- how many units of its deck an operand fills
abbrev pub size_of : DeckKind → Operand → ℕ
size_of kind (CentralOperand instruction) = (3 * instruction.count + field_width instruction.field) / 15
size_of kind (PeripheralOperand row values) = form_units row.form
size_of kind (WordsOperand data') = data_words kind data' * units kind
size_of kind (BitsOperand fields) = (bits_of fields + word_bits kind - 1) / word_bits kind * units kind
size_of kind (TextOperand count text) = count * units kind
size_of kind _ = 0
