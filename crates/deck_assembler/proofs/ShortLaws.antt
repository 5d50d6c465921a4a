-- The fields of a statement, as a list has them, are short; but for the zeros of a BSSZ.
use Rattle.std.{proofs.Common.{◌≡◌, ◌∙◌, ℕ, zero, suc, ◌+◌, ◌-◌, ◌*◌, ◌/◌, ◌%◌, ◌^◌, ◌<◌, ◌≤◌, Bool, true, false, ◌&&◌, List, [], ◌∷◌, ◌++◌, Option, Some, None, map, flat_map, refl, ap, ap₂, sym, subst, arith, if◌then◌else◌}, specs.Prelude.nat_le, proofs.Math.Nat.mod-lt, proofs.lemmas.Bool.{lt-ltb, eq-eqb, leb-true, leb-false, true≢false}, proofs.lemmas.Nat.pow_pos}
use Rattle.definitions.{specs.Expressions.Expression, specs.Kinds.{word_bits, unit_bits}, specs.Operands.{Operand, CentralOperand, PeripheralOperand, WordsOperand, BitsOperand, TextOperand, Datum, ZeroWord, NumberWord, CountedItemWords, ExpressionWord, BitField}, specs.Operations.Operation, specs.PeripheralTable.{PeripheralForm, Ignored, Short, ShortJump, Shift, Wide, Long}, specs.Matching.{Field, NoField, OfK, OfN}, specs.Settled.Settled, specs.Settling.{settle, seen_of}, specs.Sizes.{field_width, form_units, bits_of}, specs.Statements.Statement, specs.StatementItems.{Item, Content, Known, Linked, Context, known, datum_item, vfd_value, zeros_to_word, operand_items, items_of}, specs.Words.{width_of, cut}, specs.declared.deck_kind.DeckKind.DeckKind, specs.declared.deck_kind.DeckKind.TheVariants.{Rel, Abs, Periph}, specs.declared.letter.Letter.Letter, proofs.WordLaws.{pow_positive, picked_cond}, specs.Laws.Filling.{HasRoom, DoFit, IsWholeWords, AreLongWhole}, proofs.FieldRoomLaws.operand-fields, proofs.ItemLaws.{IsField, expression_item-field, number_item-field}, proofs.OperandLaws.operand_of-made, proofs.OperandShapes.{HaveWidths, IsMade}}
use Rattle.definitions.specs.Operands as operands
use Rattle.definitions.specs.Operations as op
use Rattle.statement_coder.specs.Joins.{CodedItems.stores_zeros, WordItems.{is_several, known_words, words_of, in_words, listed_fields}}
use Rattle.deck_objects.specs.Joins.LineItems.{AreShort}
use Rattle.deck_assembler.proofs.ListedLaws.{none-listed}

short-append : (xs ys : List Item) → AreShort xs → AreShort ys → AreShort (xs ++ ys)
short-append [] ys h k = k
short-append (x ∷ xs) ys h k = (h.0, (h.1.0, short-append xs ys h.1.1 k))

-- pieces of a cut have room
abbrev HaveRoom : ℕ → List ℕ → Type 0
HaveRoom word [] = Unit {0}
HaveRoom word (n ∷ words) = (n < 2 ^ word) × HaveRoom word words

room-append : (word n : ℕ) (words : List ℕ) → HaveRoom word words → n < 2 ^ word → HaveRoom word (words ++ n ∷ [])
room-append word n [] h k = (k, tt)
room-append word n (m ∷ words) h k = (h.0, room-append word n words h.1 k)

room-cut : (word count n : ℕ) → HaveRoom word (cut word count n)
room-cut word zero n = tt
room-cut word (suc count) n = room-append word (n % 2 ^ word) (cut word count (n / 2 ^ word)) (room-cut word count (n / 2 ^ word)) (mod-lt n (pow_pos word))

short-known_words : (word : ℕ) (words : List ℕ) → word ≤ 60 → HaveRoom word words → AreShort (known_words word words)
short-known_words word [] most h = tt
short-known_words word (n ∷ words) most h = (most, (h.0, short-known_words word words most h.1))

-- a field of at most 60 bits
short-words_of : (word : ℕ) (field : Item) (letters : List Letter) (content : Content) → word ≤ 60 → field.width ≤ 60 → HasRoom field.width field.content → AreShort (words_of word field letters content)
short-words_of word field [] (Known bits) most narrow room =
    picked_cond AreShort (is_several word field.width bits) (known_words word (cut word (field.width / word) bits)) (field ∷ [])
    (short-known_words word (cut word (field.width / word) bits) most (room-cut word (field.width / word) bits)) (narrow, (room, tt))
short-words_of word field [] (Linked form) most narrow room = (narrow, (room, tt))
short-words_of word field (letter ∷ letters) content most narrow room = (narrow, (room, tt))

short-narrow : (word : ℕ) (field : Item) → word ≤ 60 → field.width ≤ 60 → HasRoom field.width field.content → AreShort (in_words word field)
short-narrow word field most narrow room = short-words_of word field field.letters field.content most narrow room

-- long known bits of whole words are cut
several-long : (word width bits : ℕ) → word ≤ 60 → 60 < width → width % word ≡ 0 → bits < 2 ^ width → is_several word width bits ≡ true
several-long word width bits most long whole room =
    ap₂ (λ (a b : Bool). a && b) (ap₂ (λ (a b : Bool). a && b) (lt-ltb word width (omega arith)) (eq-eqb (width % word) 0 whole)) (lt-ltb bits (2 ^ width) room)

short-known : (word width bits : ℕ) → word ≤ 60 → bits < 2 ^ width → (60 < width → width % word ≡ 0) → AreShort (in_words word (known width bits))
short-known word width bits most room whole = step (nat_le width 60) refl
  where
    step : (t : Bool) → nat_le width 60 ≡ t → AreShort (in_words word (known width bits))
    step true e = short-narrow word (known width bits) most (leb-true width 60 e) room
    step false e =
        let long : 60 < width = leb-false width 60 e in
        subst (λ t. AreShort (if t then known_words word (cut word (width / word) bits) else known width bits ∷ [])) (sym (several-long word width bits most long (whole long) room))
        (short-known_words word (cut word (width / word) bits) most (room-cut word (width / word) bits))

word_short : (kind : DeckKind) → word_bits kind ≤ 60
word_short Rel = omega arith
word_short Abs = omega arith
word_short Periph = omega arith

short-field : (word : ℕ) (item : Item) → word ≤ 60 → IsField word item → AreShort (in_words word item)
short-field word item most is = short-narrow word item most (omega (arith, is.0)) is.1

-- DATA and CON
short-datum : (context : Context) (settled : Settled) (datum : Datum) → (let item = datum_item context settled datum in
    HasRoom item.width item.content → (60 < item.width → IsWholeWords (word_bits context.kind) item.width item.content) → AreShort (in_words (word_bits context.kind) item))
short-datum context settled ZeroWord room whole = short-narrow (word_bits context.kind) (known (word_bits context.kind) 0) (word_short context.kind) (word_short context.kind) room
short-datum context settled (NumberWord sign number) room whole =
    short-field (word_bits context.kind) _ (word_short context.kind) (number_item-field (word_bits context.kind) sign number)
short-datum context settled (ExpressionWord e) room whole =
    short-field (word_bits context.kind) _ (word_short context.kind) (expression_item-field context settled (word_bits context.kind) e (word_short context.kind))
short-datum context settled (CountedItemWords item) room whole = short-known (word_bits context.kind) _ _ (word_short context.kind) room whole

short-data : (context : Context) (settled : Settled) (data' : List Datum) → DoFit (map (datum_item context settled) data') → AreLongWhole (word_bits context.kind) (map (datum_item context settled) data') →
    AreShort (flat_map (in_words (word_bits context.kind)) (map (datum_item context settled) data'))
short-data context settled [] fit long = tt
short-data context settled (datum ∷ data') fit long =
    short-append (in_words (word_bits context.kind) (datum_item context settled datum)) _ (short-datum context settled datum fit.0 long.0) (short-data context settled data' fit.1 long.1)

-- a VFD
short-value : (context : Context) (settled : Settled) (width : ℕ) (value : Option Expression) → width ≤ 60 → IsField width (vfd_value context settled width value)
short-value context settled width None most = (refl, pow_positive width)
short-value context settled width (Some e) most = expression_item-field context settled width e most

short-vfd : (context : Context) (settled : Settled) (fields : List BitField) → HaveWidths fields → AreShort (map (λ (field : BitField). vfd_value context settled field.width field.value) fields)
short-vfd context settled [] h = tt
short-vfd context settled (field ∷ fields) h =
    let is = short-value context settled field.width field.value h.0.1 in
    let most : field.width ≤ 60 = h.0.1 in
    (let narrow : (vfd_value context settled field.width field.value).width ≤ 60 = rw is.0 most in narrow, (is.1, short-vfd context settled fields h.1))

zeros_short : (kind : DeckKind) (bits : ℕ) → (word_bits kind - bits % word_bits kind) % word_bits kind ≤ 60
zeros_short Rel bits = omega arith
zeros_short Abs bits = omega arith
zeros_short Periph bits = omega arith

-- fields of at most 60 bits together
short-total : (fields : List Item) → width_of fields ≤ 60 → DoFit fields → AreShort fields
short-total [] most fit = tt
short-total (item ∷ items) most fit = (omega (arith, most), (fit.0, short-total items (omega (arith, most)) fit.1))

field_short : (field : Field) → field_width field ≤ 18
field_short NoField = omega arith
field_short (OfK e) = omega arith
field_short (OfN e) = omega arith

form_short : (form : PeripheralForm) → form_units form ≤ 2
form_short Ignored = omega arith
form_short Short = omega arith
form_short ShortJump = omega arith
form_short Shift = omega arith
form_short Wide = omega arith
form_short Long = omega arith

-- the fields of an operand
short-operand : (context : Context) (settled : Settled) (operand : Operand) → IsMade context.kind operand → AreShort (listed_fields context.kind operand (operand_items context settled operand))
short-operand context settled (CentralOperand instruction) made =
    let fields = operand-fields context settled (CentralOperand instruction) made in
    let bits : unit_bits context.kind ≡ 15 = made.0 in
    let wide : width_of (operand_items context settled (CentralOperand instruction)) ≡ (3 * instruction.count + field_width instruction.field) / 15 * 15 =
    fields.wide ∙ ap (λ n. (3 * instruction.count + field_width instruction.field) / 15 * n) bits in
    let few : instruction.count ≤ 10 = made.1.few in
    short-total (operand_items context settled (CentralOperand instruction)) (omega (arith, wide, few, field_short instruction.field)) fields.fit
short-operand context settled (PeripheralOperand row values) made =
    let fields = operand-fields context settled (PeripheralOperand row values) made in
    let bits : unit_bits context.kind ≡ 12 = made.0 in
    let wide : width_of (operand_items context settled (PeripheralOperand row values)) ≡ form_units row.form * 12 = fields.wide ∙ ap (λ n. form_units row.form * n) bits in
    short-total (operand_items context settled (PeripheralOperand row values)) (omega (arith, wide, form_short row.form)) fields.fit
short-operand context settled (WordsOperand data') made =
    let fields = operand-fields context settled (WordsOperand data') made in
    short-data context settled data' fields.fit fields.long
short-operand context settled (BitsOperand fields) made =
    short-append (map (λ (field : BitField). vfd_value context settled field.width field.value) fields) (zeros_to_word (word_bits context.kind) (bits_of fields) ∷ [])
    (short-vfd context settled fields made) (zeros_short context.kind (bits_of fields), (pow_positive ((word_bits context.kind - bits_of fields % word_bits context.kind) % word_bits context.kind), tt))
short-operand context settled (TextOperand count characters) made =
    let fields = operand-fields context settled (TextOperand count characters) made in
    short-append (in_words (word_bits context.kind) (known (count * word_bits context.kind) _)) [] (short-known (word_bits context.kind) _ _ (word_short context.kind) fields.fit.0 fields.long.0) tt
short-operand context settled operands.Unread made = tt
short-operand context settled operands.BadOperand made = tt
short-operand context settled (operands.ValueOperand e) made = tt
short-operand context settled (operands.NamesOperand names) made = tt
short-operand context settled (operands.UseName name) made = tt
short-operand context settled operands.UseBefore made = tt
short-operand context settled operands.UseRefused made = tt

short-picked : (context : Context) (settled : Settled) (operand : Operand) → IsMade context.kind operand →
    AreShort (listed_fields context.kind operand (if nat_le settled.end settled.place then [] else operand_items context settled operand))
short-picked context settled operand made =
    picked_cond (λ fields. AreShort (listed_fields context.kind operand fields)) (nat_le settled.end settled.place) [] (operand_items context settled operand)
    (subst AreShort (sym (none-listed context.kind operand [] refl)) tt) (short-operand context settled operand made)

short-items : (context : Context) (settled : Settled) (operation : Operation) → IsMade context.kind settled.read.operand → stores_zeros operation ≡ false →
    AreShort (listed_fields context.kind settled.read.operand (items_of context settled operation))
short-items context settled op.Bssz made e = absurd (true≢false e)
short-items context settled _ made e = short-picked context settled settled.read.operand made

-- the fields of a statement
pub settle-short : (kind : DeckKind) (earlier : List Settled) (statement : Statement) (context : Context) → context.kind ≡ kind →
    (let settled = settle kind earlier statement in
    stores_zeros settled.read.operation ≡ false → AreShort (listed_fields kind settled.read.operand (items_of context settled settled.read.operation)))
settle-short kind earlier statement context e =
    subst (λ k. (let settled = settle k earlier statement in
    stores_zeros settled.read.operation ≡ false → AreShort (listed_fields k settled.read.operand (items_of context settled settled.read.operation)))) e
    (let settled = settle context.kind earlier statement in
    let base = (seen_of earlier).number_base in
    short-items context settled settled.read.operation (operand_of-made context.kind base settled.read.operation settled.read.fields.operation settled.read.fields.variable))
