-- The fields of an operand: together as wide as its size, each with room, and the long ones of whole words.
use Rattle.std.{proofs.Common.{ℕ, ◌≡◌, zero, suc, ◌+◌, ◌-◌, ◌*◌, ◌/◌, ◌%◌, ◌^◌, ◌<◌, ◌≤◌, List, [], ◌∷◌, ◌++◌, length, Option, Some, None, refl, ap, ap₂, subst, ◌∙◌, arith}, specs.Prelude.map, proofs.lemmas.Nat.pow-add}
use Rattle.std.proofs.Math.Nat.{pow-suc as pow-succ}
use Rattle.definitions.{specs.CountedItems.bits_needed, specs.Kinds.{word_bits, units, unit_bits}, specs.Expressions.Expression, specs.Forms.characters_number, specs.Coding.{words_needed, counted_item_bits}, specs.PeripheralTable.{PeripheralForm, Ignored, Short, ShortJump, Shift, Wide, Long, PeripheralRow}, specs.Matching.{Field, NoField, OfK, OfN, Instruction}, specs.Operands.{Operand, CentralOperand, PeripheralOperand, WordsOperand, BitsOperand, TextOperand, Datum, ZeroWord, NumberWord, CountedItemWords, ExpressionWord, BitField, word_characters}, specs.Sizes.{datum_words, data_words, bits_of, field_width, form_units, size_of}, specs.Settled.Settled, specs.StatementItems.{Item, Content, Context, known, small_value, whole_counted_item, expression_item, instruction_items, second_value, peripheral_items, datum_item, vfd_value, operand_items}, specs.Words.width_of, specs.declared.deck_kind.DeckKind.DeckKind, specs.declared.deck_kind.DeckKind.TheVariants.{Rel, Abs, Periph}, proofs.WordLaws.pow_positive, specs.Laws.Filling.{DoFit, IsWholeWords, AreLongWhole}, proofs.LiteralLaws.{counted_item_bits-below, right_below, needed_more}, proofs.ItemLaws.{IsField, expression_item-field, count_of-field, shift_of-field, displacement_of-field, number_item-field}, proofs.OperandShapes.{IsWhole, HasValues, HaveWidths, IsMade}}

-- fields that have so many bits together, have room, and of which the long ones are whole words
pub record AreFields (word width : ℕ) (items : List Item) : Type 0 where
  pub wide : width_of items ≡ width
  pub fit : DoFit items
  pub long : AreLongWhole word items

-- a field of at most 60 bits is not long
short_whole : (word width : ℕ) (content : Content) → width ≤ 60 → 60 < width → IsWholeWords word width content
short_whole word width content most long = absurd (omega arith)

no-fields : (word : ℕ) → AreFields word 0 []
no-fields word = record { wide = refl; fit = tt; long = tt }

-- one field more in front
short-fields : (word width rest : ℕ) (item : Item) (items : List Item) → IsField width item → width ≤ 60 → AreFields word rest items → AreFields word (width + rest) (item ∷ items)
short-fields word width rest item items is most behind = record {
  wide = ap₂ (λ (a b : ℕ). a + b) is.0 behind.wide;
  fit = (is.1, behind.fit);
  long = (short_whole word item.width item.content (rw is.0 most), behind.long);
}

-- a field that may be long, of known bits
known-fields : (word width bits rest : ℕ) (items : List Item) → bits < 2 ^ width → (60 < width → width % word ≡ 0) → AreFields word rest items → AreFields word (width + rest) (known width bits ∷ items)
known-fields word width bits rest items room whole behind = record {
  wide = ap (λ n. width + n) behind.wide;
  fit = (room, behind.fit);
  long = (whole, behind.long);
}

same-fields : (word a b : ℕ) (items : List Item) → a ≡ b → AreFields word a items → AreFields word b items
same-fields word a b items e h = subst (λ n. AreFields word n items) e h

-- three bits for each octal digit
octal_power : (n : ℕ) → 8 ^ n ≡ 2 ^ (3 * n)
octal_power zero = refl
octal_power (suc n) =
    let more : 2 ^ (3 * suc n) ≡ 2 ^ (3 * n) * 8 = ap (λ k. 2 ^ k) (omega arith) ∙ pow-add 2 (3 * n) 3 in
    rw (pow-succ 8 n, more, octal_power n) refl

-- the fields of a central instruction
instruction-fields : (context : Context) (settled : Settled) (word : ℕ) (field : Field) → AreFields word (field_width field) (instruction_items context settled field)
instruction-fields context settled word NoField = no-fields word
instruction-fields context settled word (OfK e) = short-fields word 18 0 (expression_item context settled 18 e) [] (expression_item-field context settled 18 e (omega arith)) (omega arith) (no-fields word)
instruction-fields context settled word (OfN e) =
    short-fields word 6 0 _ [] (count_of-field (small_value context settled e (whole_counted_item e.sign e.terms))) (omega arith) (no-fields word)

central-fields : (context : Context) (settled : Settled) (kind : DeckKind) (word : ℕ) (instruction : Instruction) → unit_bits kind ≡ 15 → IsWhole instruction →
    AreFields word (size_of kind (CentralOperand instruction) * unit_bits kind) (operand_items context settled (CentralOperand instruction))
central-fields context settled kind word instruction e whole =
    let few = whole.few in
    let fills = whole.fills in
    let room : instruction.digits < 2 ^ (3 * instruction.count) = rw octal_power at whole.room in
    same-fields word (3 * instruction.count + field_width instruction.field) (size_of kind (CentralOperand instruction) * unit_bits kind) _ (rw e (omega arith))
    (known-fields word (3 * instruction.count) instruction.digits (field_width instruction.field) _ room (λ long. absurd (omega arith)) (instruction-fields context settled word instruction.field))

-- the bits behind the two digits of a peripheral operation
abbrev form_bits : PeripheralForm → ℕ
form_bits Wide = 18
form_bits Long = 18
form_bits form = 6

-- a field of 6 bits alone
six-fields : (word : ℕ) (item : Item) → IsField 6 item → AreFields word 6 (item ∷ [])
six-fields word item is = short-fields word 6 0 item [] is (omega arith) (no-fields word)

zero_field : IsField 6 (known 6 0)
zero_field = (refl, pow_positive 6)

second_value-field : (context : Context) (settled : Settled) (others : List Expression) → IsField 6 (second_value context settled others)
second_value-field context settled [] = zero_field
second_value-field context settled (d ∷ others) = expression_item-field context settled 6 d (omega arith)

form-fields : (context : Context) (settled : Settled) (word : ℕ) (form : PeripheralForm) (values : List Expression) → HasValues form values → AreFields word (form_bits form) (peripheral_items context settled form values)
form-fields context settled word Ignored values h = six-fields word _ zero_field
form-fields context settled word Short [] h = six-fields word _ zero_field
form-fields context settled word Short (d ∷ others) h = six-fields word _ (expression_item-field context settled 6 d (omega arith))
form-fields context settled word ShortJump [] h = six-fields word _ zero_field
form-fields context settled word ShortJump (d ∷ others) h = six-fields word _ (displacement_of-field context settled (small_value context settled d (whole_counted_item d.sign d.terms)))
form-fields context settled word Shift [] h = six-fields word _ zero_field
form-fields context settled word Shift (d ∷ others) h = six-fields word _ (shift_of-field context (small_value context settled d (whole_counted_item d.sign d.terms)))
form-fields context settled word Wide [] h = absurd h
form-fields context settled word Wide (c ∷ others) h = short-fields word 18 0 _ [] (expression_item-field context settled 18 c (omega arith)) (omega arith) (no-fields word)
form-fields context settled word Long [] h = absurd h
form-fields context settled word Long (m ∷ others) h =
    short-fields word 6 12 _ _ (second_value-field context settled others) (omega arith)
    (short-fields word 12 0 _ [] (expression_item-field context settled 12 m (omega arith)) (omega arith) (no-fields word))

form_whole : (form : PeripheralForm) → 6 + form_bits form ≡ form_units form * 12
form_whole Ignored = refl
form_whole Short = refl
form_whole ShortJump = refl
form_whole Shift = refl
form_whole Wide = refl
form_whole Long = refl

peripheral-fields : (context : Context) (settled : Settled) (kind : DeckKind) (word : ℕ) (row : PeripheralRow) (values : List Expression) → unit_bits kind ≡ 12 → row.code < 64 → HasValues row.form values →
    AreFields word (size_of kind (PeripheralOperand row values) * unit_bits kind) (operand_items context settled (PeripheralOperand row values))
peripheral-fields context settled kind word row values e small h =
    same-fields word (6 + form_bits row.form) (size_of kind (PeripheralOperand row values) * unit_bits kind) _ (rw e (form_whole row.form))
    (known-fields word 6 row.code (form_bits row.form) _ small (λ long. absurd (omega arith)) (form-fields context settled word row.form values h))

-- words of DATA and CON
word_short : (kind : DeckKind) → word_bits kind ≤ 60
word_short Rel = omega arith
word_short Abs = omega arith
word_short Periph = omega arith

item_room : (kind : DeckKind) (n bits : ℕ) → 6 * n ≤ bits → 6 * n ≤ 6 * ((bits + word_bits kind - 1) / word_bits kind * word_bits kind / 6)
item_room Rel n bits h = omega arith
item_room Abs n bits h = omega arith
item_room Periph n bits h = omega arith

-- so many words are whole words
pub words_whole : (kind : DeckKind) (n : ℕ) → n * word_bits kind % word_bits kind ≡ 0
words_whole Rel n = omega arith
words_whole Abs n = omega arith
words_whole Periph n = omega arith

units_whole : (kind : DeckKind) (n : ℕ) → n * word_bits kind ≡ n * units kind * unit_bits kind
units_whole Rel n = omega arith
units_whole Abs n = omega arith
units_whole Periph n = omega arith

datum-fields : (context : Context) (settled : Settled) (datum : Datum) (rest : ℕ) (items : List Item) → AreFields (word_bits context.kind) rest items →
    AreFields (word_bits context.kind) (datum_words context.kind datum * word_bits context.kind + rest) (datum_item context settled datum ∷ items)
datum-fields context settled ZeroWord rest items behind =
    let word = word_bits context.kind in let most = word_short context.kind in
    same-fields word (word + rest) (1 * word + rest) _ (omega arith) (known-fields word word 0 rest items (pow_positive word) (λ long. absurd (omega (arith, most))) behind)
datum-fields context settled (NumberWord sign number) rest items behind =
    let word = word_bits context.kind in
    same-fields word (word + rest) (1 * word + rest) _ (omega arith) (short-fields word word rest _ items (number_item-field word sign number) (word_short context.kind) behind)
datum-fields context settled (ExpressionWord e) rest items behind =
    let word = word_bits context.kind in
    same-fields word (word + rest) (1 * word + rest) _ (omega arith) (short-fields word word rest _ items (expression_item-field context settled word e (word_short context.kind)) (word_short context.kind) behind)
datum-fields context settled (CountedItemWords item) rest items behind =
    let word = word_bits context.kind in
    let width = words_needed word item * word in
    known-fields word width (counted_item_bits width item) rest items
    (counted_item_bits-below width item (item_room context.kind (length item.characters) (bits_needed item) (needed_more item)))
    (λ long. words_whole context.kind (words_needed word item)) behind

data-fields : (context : Context) (settled : Settled) (data' : List Datum) →
    AreFields (word_bits context.kind) (data_words context.kind data' * word_bits context.kind) (map (datum_item context settled) data')
data-fields context settled [] = same-fields (word_bits context.kind) 0 (0 * word_bits context.kind) [] (omega arith) (no-fields (word_bits context.kind))
data-fields context settled (datum ∷ data') =
    let word = word_bits context.kind in
    same-fields word (datum_words context.kind datum * word + data_words context.kind data' * word) ((datum_words context.kind datum + data_words context.kind data') * word) _ (omega arith)
    (datum-fields context settled datum (data_words context.kind data' * word) _ (data-fields context settled data'))

-- the fields of a VFD, in front of others
vfd_value-field : (context : Context) (settled : Settled) (width : ℕ) (value : Option Expression) → width ≤ 60 → IsField width (vfd_value context settled width value)
vfd_value-field context settled width None most = (refl, pow_positive width)
vfd_value-field context settled width (Some e) most = expression_item-field context settled width e most

vfd-fields : (context : Context) (settled : Settled) (word : ℕ) (fields : List BitField) (rest : ℕ) (items : List Item) → HaveWidths fields → AreFields word rest items →
    AreFields word (bits_of fields + rest) (map (λ (field : BitField). vfd_value context settled field.width field.value) fields ++ items)
vfd-fields context settled word [] rest items h behind = same-fields word rest (0 + rest) items (omega arith) behind
vfd-fields context settled word (field ∷ fields) rest items h behind =
    same-fields word (field.width + (bits_of fields + rest)) (field.width + bits_of fields + rest) _ (omega arith)
    (short-fields word field.width (bits_of fields + rest) _ _ (vfd_value-field context settled field.width field.value h.0.1) h.0.1 (vfd-fields context settled word fields rest items h.1 behind))

zeros_short : (kind : DeckKind) (bits : ℕ) → (word_bits kind - bits % word_bits kind) % word_bits kind ≤ 60
zeros_short Rel bits = omega arith
zeros_short Abs bits = omega arith
zeros_short Periph bits = omega arith

zeros_whole : (kind : DeckKind) (bits : ℕ) → bits + ((word_bits kind - bits % word_bits kind) % word_bits kind + 0) ≡ (bits + word_bits kind - 1) / word_bits kind * units kind * unit_bits kind
zeros_whole Rel bits = omega arith
zeros_whole Abs bits = omega arith
zeros_whole Periph bits = omega arith

bits-fields : (context : Context) (settled : Settled) (fields : List BitField) → HaveWidths fields →
    AreFields (word_bits context.kind) (size_of context.kind (BitsOperand fields) * unit_bits context.kind) (operand_items context settled (BitsOperand fields))
bits-fields context settled fields h =
    let word = word_bits context.kind in
    let zeros = (word - bits_of fields % word) % word in
    let few : zeros ≤ 60 = zeros_short context.kind (bits_of fields) in
    same-fields word (bits_of fields + (zeros + 0)) (size_of context.kind (BitsOperand fields) * unit_bits context.kind) _ (zeros_whole context.kind (bits_of fields))
    (vfd-fields context settled word fields (zeros + 0) _ h
    (known-fields word zeros 0 0 [] (pow_positive zeros) (λ long. absurd (omega (arith, few))) (no-fields word)))

text_room : (kind : DeckKind) (n count : ℕ) → n ≤ count * word_characters kind → 6 * n ≤ count * word_bits kind
text_room Rel n count h = omega arith
text_room Abs n count h = omega arith
text_room Periph n count h = omega arith

text-fields : (context : Context) (settled : Settled) (count : ℕ) (characters : List ℕ) → length characters ≤ count * word_characters context.kind →
    AreFields (word_bits context.kind) (size_of context.kind (TextOperand count characters) * unit_bits context.kind) (operand_items context settled (TextOperand count characters))
text-fields context settled count characters h =
    let word = word_bits context.kind in
    let whole = units_whole context.kind count in
    same-fields word (count * word + 0) (count * units context.kind * unit_bits context.kind) _ (omega (arith, whole))
    (known-fields word (count * word) (characters_number characters) 0 [] (right_below characters (count * word) (text_room context.kind (length characters) count h))
    (λ long. words_whole context.kind count) (no-fields word))

-- the fields of an operand are together as wide as its size
pub operand-fields : (context : Context) (settled : Settled) (operand : Operand) → IsMade context.kind operand →
    AreFields (word_bits context.kind) (size_of context.kind operand * unit_bits context.kind) (operand_items context settled operand)
operand-fields context settled (CentralOperand instruction) made = central-fields context settled context.kind (word_bits context.kind) instruction made.0 made.1
operand-fields context settled (PeripheralOperand row values) made = peripheral-fields context settled context.kind (word_bits context.kind) row values made.0 made.1.0 made.1.1
operand-fields context settled (WordsOperand data') made =
    same-fields (word_bits context.kind) (data_words context.kind data' * word_bits context.kind) (data_words context.kind data' * units context.kind * unit_bits context.kind) _
    (units_whole context.kind (data_words context.kind data')) (data-fields context settled data')
operand-fields context settled (BitsOperand fields) made = bits-fields context settled fields made
operand-fields context settled (TextOperand count characters) made = text-fields context settled count characters made
operand-fields context settled _ made = same-fields (word_bits context.kind) 0 (0 * unit_bits context.kind) [] (omega arith) (no-fields (word_bits context.kind))
