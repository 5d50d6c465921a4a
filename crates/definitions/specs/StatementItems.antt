-- The items of a statement: fields of so many bits one behind the other, with their contents and letters
-- (COMPASS 60492600, data generation; 6600 reference 60100000, instruction formats).
use Rattle.std.specs.Prelude.{ℕ, ◌+◌, ◌-◌, ◌*◌, ◌/◌, ◌%◌, List, [], ◌∷◌, ◌++◌, Option, Some, None, Result, Ok, Err, Bool, ◌&&◌, nat_le, map, ℤ, pos, negsuc, ◌+ℤ◌, ◌-ℤ◌, neg_ℤ, unsigned_abs, if◌then◌else◌}
use Rattle.definitions.specs.{CountedItems.CountedItem, Symbols.{Number, Value, TooGreat}, Expressions.{Sign, NoSign, Expression, Term, Element, ACountedItem}, Forms.{Form, Names, Part, Added, Subtracted, Block, External, absolute, is_absolute, characters_number, value_of}, Coding.{coded, coded_in, counted_item_in, counted_item_bits, words_needed}, PeripheralTable.{PeripheralForm, Short, ShortJump, Shift, Wide, Long}, Matching.{Field, NoField, OfK, OfN}, Operations.Operation, Operands.{Operand, CentralOperand, PeripheralOperand, WordsOperand, BitsOperand, TextOperand, Datum, ZeroWord, NumberWord, CountedItemWords, ExpressionWord, BitField}, Kinds.{word_bits, units, address_bits}, Sizes.bits_of, Literals.{signed_number, literal_form}, Lengths.{BlockRow, base_in}, Settled.{Settled, defined}, declared.deck_kind.DeckKind.DeckKind, declared.deck_kind.DeckKind.TheVariants.Rel, declared.letter.Letter.Letter}
use Rattle.definitions.specs.Operations as op
use Rattle.definitions.specs.declared.letter.Letter.TheVariants as letter

-- bits that are known, or a form that the link makes a number of
pub data Content : Type 0 where
  Known : ℕ → Content
  Linked : Form → Content

-- a field: its width, its content, and its letters
pub record Item : Type 0 where
  pub width : ℕ
  pub content : Content
  pub letters : List Letter

-- what is known of a deck once all its statements are settled
pub record Context : Type 0 where
  pub kind : DeckKind
  pub settled : List Settled
  pub rows : List BlockRow
  pub literals : List ℕ

-- bits that are known, without a letter
abbrev pub known : ℕ → ℕ → Item
known width bits = record { width = width; content = Known bits; letters = [] }

-- a faulty field is 0
abbrev pub faulty : ℕ → Letter → Item
faulty width fault = record { width = width; content = Known 0; letters = fault ∷ [] }

-- bits that are known, or 0 with A where the value does not fit
abbrev pub known_if : ℕ → Option ℕ → Item
known_if width None = faulty width letter.A
known_if width (Some bits) = known width bits

-- what a statement's expressions see: every first definition, and the literals
abbrev pub final_names : Context → Settled → Names
final_names context settled =
    record { symbol = λ name. defined name context.settled; literal = λ literal. literal_form context.literals literal; location = settled.location; origin = settled.origin }

-- a block's or an external's part of a value, from bases of blocks and values of externals
abbrev pub part_value : (List ℕ → ℤ) → (List ℕ → ℤ) → Option Part → ℤ
part_value block external None = pos 0
part_value block external (Some (Added (Block name))) = block name
part_value block external (Some (Added (External name))) = external name
part_value block external (Some (Subtracted (Block name))) = neg_ℤ (block name)
part_value block external (Some (Subtracted (External name))) = neg_ℤ (external name)

-- the number that a form is in an absolute or peripheral deck
abbrev pub number_in : Context → Form → ℤ
number_in context form = form.number +ℤ part_value (λ name. pos (base_in name context.rows)) (λ name. pos 0) form.part

-- in a REL deck a field with a block or external has at least 18 bits
abbrev pub linked_item : ℕ → Form → Item
linked_item width form =
    if is_absolute form then known_if width (coded_in width form.number)
    else if nat_le address_bits width then record { width = width; content = Linked form; letters = [] } else faulty width letter.R

-- the field of a value: in REL decks the link may still have to make it, in others it is a number
abbrev pub form_item : Context → DeckKind → ℕ → Form → Item
form_item context Rel width form = linked_item width form
form_item context kind width form = known_if width (coded_in width (number_in context form))

-- the field of a value, or 0 with its letter
abbrev pub value_item : Context → ℕ → Result Form Letter → Item
value_item context width (Err fault) = faulty width fault
value_item context width (Ok form) = form_item context context.kind width form

-- an expression that is one item alone
abbrev pub whole_term : Element → Option CountedItem
whole_term (ACountedItem item) = Some item
whole_term _ = None

-- the item of a term that has no factors
abbrev pub term_alone : Term → Option CountedItem
term_alone term = elim term.factors [ [] ↦ whole_term term.element | pair ∷ pairs ↦ None ]

-- the item that is the whole of an expression without a sign
abbrev pub whole_counted_item : Sign → List Term → Option CountedItem
whole_counted_item NoSign (term ∷ []) = term_alone term
whole_counted_item _ _ = None

-- an item is placed in the field, of anything else the value is taken
abbrev pub counted_item_or_value : Context → Settled → ℕ → Expression → Option CountedItem → Item
counted_item_or_value context settled width e None = value_item context width (value_of (final_names context settled) e)
counted_item_or_value context settled width e (Some item) = known_if width (counted_item_in width item)

-- an expression in a field of so many bits
abbrev pub expression_item : Context → Settled → ℕ → Expression → Item
expression_item context settled width e = counted_item_or_value context settled width e (whole_counted_item e.sign e.terms)

-- the number of an item's bits, or A where it has no room
abbrev pub counted_item_value : Option ℕ → Result Form Letter
counted_item_value None = Err letter.A
counted_item_value (Some bits) = Ok (absolute (pos bits))

-- a value that a rule of its own puts into 6 bits: that of an item is the number of its 6 bits
abbrev pub small_value : Context → Settled → Expression → Option CountedItem → Result Form Letter
small_value context settled e None = value_of (final_names context settled) e
small_value context settled e (Some item) = counted_item_value (counted_item_in 6 item)

-- the count of LX, AX and MX: -60 to 63; a negative one is coded as 60 more
abbrev pub count_item : ℤ → Item
count_item (pos n) = if nat_le n 63 then known 6 n else faulty 6 letter.A
count_item (negsuc n) = if nat_le (n + 1) 60 then known 6 (60 - (n + 1)) else faulty 6 letter.A

-- the count of LX, AX and MX from its value, which must be absolute, else R
abbrev pub count_of : Result Form Letter → Item
count_of (Err fault) = faulty 6 fault
count_of (Ok form) = if is_absolute form then count_item form.number else faulty 6 letter.R

-- from -37 to 37 octal
abbrev pub is_short : ℤ → Bool
is_short n = nat_le (unsigned_abs n) 31

-- a number from -37 to 37 octal in 6 bits, or A
abbrev pub short_item : ℤ → Item
short_item n = if is_short n then known 6 (coded 6 n) else faulty 6 letter.A

-- the count of SHN in 6 bits
abbrev pub shift_of : Context → Result Form Letter → Item
shift_of context (Err fault) = faulty 6 fault
shift_of context (Ok form) = short_item (number_in context form)

-- an absolute value in range is the displacement; from any other the location counter is taken
abbrev pub displacement_of : Context → Settled → Result Form Letter → Item
displacement_of context settled (Err fault) = faulty 6 fault
displacement_of context settled (Ok form) =
    if is_absolute form && is_short form.number then known 6 (coded 6 form.number)
    else short_item (number_in context form -ℤ number_in context settled.location)

-- the field of a central instruction: K in 18 bits, n as a count in 6, or none
abbrev pub instruction_items : Context → Settled → Field → List Item
instruction_items context settled NoField = []
instruction_items context settled (OfK e) = expression_item context settled address_bits e ∷ []
instruction_items context settled (OfN e) = count_of (small_value context settled e (whole_counted_item e.sign e.terms)) ∷ []

-- d behind m, or 0 where m stands alone
abbrev pub second_value : Context → Settled → List Expression → Item
second_value context settled [] = known 6 0
second_value context settled (d ∷ others) = expression_item context settled 6 d

-- what stands behind the two digits of a peripheral operation
abbrev pub peripheral_items : Context → Settled → PeripheralForm → List Expression → List Item
peripheral_items context settled Short (d ∷ others) = expression_item context settled 6 d ∷ []
peripheral_items context settled ShortJump (d ∷ others) = displacement_of context settled (small_value context settled d (whole_counted_item d.sign d.terms)) ∷ []
peripheral_items context settled Shift (d ∷ others) = shift_of context (small_value context settled d (whole_counted_item d.sign d.terms)) ∷ []
peripheral_items context settled Wide (c ∷ others) = expression_item context settled address_bits c ∷ []
peripheral_items context settled Long (m ∷ others) = second_value context settled others ∷ expression_item context settled 12 m ∷ []
peripheral_items context settled form values = known 6 0 ∷ []

-- a signed number in a field, or 0 with A
abbrev pub number_item : ℕ → Sign → Number → Item
number_item width sign (Value n) = known_if width (coded_in width (signed_number sign n))
number_item width sign TooGreat = faulty width letter.A

-- what fills a word of DATA or CON; an item takes as many words as it needs
abbrev pub datum_item : Context → Settled → Datum → Item
datum_item context settled ZeroWord = known (word_bits context.kind) 0
datum_item context settled (NumberWord sign number) = number_item (word_bits context.kind) sign number
datum_item context settled (CountedItemWords item) = known (words_needed (word_bits context.kind) item * word_bits context.kind) (counted_item_bits (words_needed (word_bits context.kind) item * word_bits context.kind) item)
datum_item context settled (ExpressionWord e) = expression_item context settled (word_bits context.kind) e

-- the value of a VFD's field, or 0 where none is written
abbrev pub vfd_value : Context → Settled → ℕ → Option Expression → Item
vfd_value context settled width None = known width 0
vfd_value context settled width (Some e) = expression_item context settled width e

-- zeros up to a word
abbrev pub zeros_to_word : ℕ → ℕ → Item
zeros_to_word word bits = known ((word - bits % word) % word) 0

-- the fields of an operand, one behind the other
abbrev pub operand_items : Context → Settled → Operand → List Item
operand_items context settled (CentralOperand instruction) = known (3 * instruction.count) instruction.digits ∷ instruction_items context settled instruction.field
operand_items context settled (PeripheralOperand row values) = known 6 row.code ∷ peripheral_items context settled row.form values
operand_items context settled (WordsOperand data') = map (datum_item context settled) data'
operand_items context settled (BitsOperand fields) = map (λ (field : BitField). vfd_value context settled field.width field.value) fields ++ zeros_to_word (word_bits context.kind) (bits_of fields) ∷ []
operand_items context settled (TextOperand count characters) = known (count * word_bits context.kind) (characters_number characters) ∷ []
operand_items context settled _ = []

-- BSSZ stores zeros as far as it reserves
abbrev pub zero_items : Context → Settled → List Item
zero_items context settled = known ((settled.end - settled.place) / units context.kind * word_bits context.kind) 0 ∷ []

-- the fields of a statement; one that would pass its block has none
abbrev pub items_of : Context → Settled → Operation → List Item
items_of context settled op.Bssz = zero_items context settled
items_of context settled operation = if nat_le settled.end settled.place then [] else operand_items context settled settled.read.operand
