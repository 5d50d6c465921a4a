-- An instruction reaches at most four units, and any other statement with fields stands from a word to a word.
use Rattle.std.{proofs.Common.{ℕ, ◌≡◌, ◌≢◌, ◌+◌, ◌-◌, ◌*◌, ◌/◌, ◌%◌, ◌≤◌, Bool, true, false, not, List, [], ◌∷◌, length, Option, Some, None, Result, Ok, Err, refl, arith}, specs.Prelude.{nat_le, nat_eq, map, reverse, take_while, drop, if◌then◌else◌}}
use Rattle.definitions.{specs.DeckInput.Deck, specs.DeckKinds.{kind_of_statements, up_to_end}, specs.Statements.{Statement, statements_of}, specs.Kinds.{units, word_bits, most_words, allows_literals}, specs.Characters.comma, specs.Symbols.number_read, specs.Pieces.{Piece, pieces_of, subfields_of}, specs.Expressions.Expression, specs.Forms.Form, specs.PeripheralTable.{PeripheralForm, Ignored, Short, ShortJump, Shift, Wide, Long, PeripheralRow, peripheral_row}, specs.Matching.{Instruction, Field, NoField, OfK, OfN, central_of}, specs.Operations.{Operation, has_place}, specs.Operands.{Operand, Datum, BitField, CentralOperand, PeripheralOperand, WordsOperand, BitsOperand, TextOperand, BadOperand, plain_of, all_read, data_word, con_word, vfd_field, words_operand, bits_operand, text_operand, dis_operand, one_value, count_read, central_operand, one_or_two, just_one, by_form, peripheral_operand, instruction_operand, operand_of}, specs.Sizes.{size_of, data_words, bits_of, field_width, form_units}, specs.Places.{Position, is_bad, is_at_word}, specs.EarlyValues.{Outcome, outcome_of, outcome_of_value, outcome_of_size, origin_outcome, origin_word, location_outcome, location_value, reserved_outcome, reserved, stays_with}, specs.Counters.Counters, specs.Settled.{Settled, Unchanged, ReadStatement, read_of}, specs.Settling.{Seen, seen_of, place_of, settle, settled_with, settled_all, standing_of}, specs.StatementItems.{Context, operand_items, items_of}, specs.Objects.{coded_of, context_of, object_of}, specs.declared.deck_kind.DeckKind.DeckKind, specs.declared.deck_kind.DeckKind.TheVariants.{Rel, Abs, Periph}, specs.declared.number_base.NumberBase.NumberBase, specs.declared.letter.Letter.Letter, proofs.WordLaws.picked_cond, proofs.PlaceLaws.least_place-lawful, specs.Laws.Filling.HasFields, specs.Laws.Reaching.{DoesReach, DoReach}, proofs.CentralLaws.{IsWholeIf, central_of-whole}, proofs.BareLaws.{IsBare, has_fields, one_value-bare, operand_of-bare, items_of-none}}
use Rattle.definitions.specs.Operations as op
use Rattle.definitions.specs.declared.letter.Letter.TheVariants as letter

-- an operand of at most four units
abbrev IsShort : DeckKind → Operand → Type 0
IsShort kind operand = size_of kind operand ≤ 4

field_width-short : (field : Field) → field_width field ≤ 18
field_width-short NoField = omega arith
field_width-short (OfK e) = omega arith
field_width-short (OfN e) = omega arith

central_operand-short : (kind : DeckKind) (instruction : Option Instruction) → IsWholeIf instruction → IsShort kind (central_operand instruction)
central_operand-short kind None h = omega arith
central_operand-short kind (Some instruction) h = let few = h.few in let most = field_width-short instruction.field in omega arith

form_units-short : (form : PeripheralForm) → form_units form ≤ 4
form_units-short Ignored = omega arith
form_units-short Short = omega arith
form_units-short ShortJump = omega arith
form_units-short Shift = omega arith
form_units-short Wide = omega arith
form_units-short Long = omega arith

one_or_two-short : (kind : DeckKind) (row : PeripheralRow) (values : List (Option Expression)) → IsShort kind (one_or_two row values)
one_or_two-short kind row (Some m ∷ []) = form_units-short row.form
one_or_two-short kind row (Some m ∷ Some d ∷ []) = form_units-short row.form
one_or_two-short kind row _ = omega arith

just_one-short : (kind : DeckKind) (row : PeripheralRow) (values : List (Option Expression)) → IsShort kind (just_one row values)
just_one-short kind row (Some d ∷ []) = form_units-short row.form
just_one-short kind row _ = omega arith

by_form-short : (kind : DeckKind) (row : PeripheralRow) (form : PeripheralForm) (values : List (Option Expression)) → IsShort kind (by_form row form values)
by_form-short kind row Ignored values = form_units-short row.form
by_form-short kind row Long values = one_or_two-short kind row values
by_form-short kind row _ values = just_one-short kind row values

peripheral_operand-short : (kind : DeckKind) (base : NumberBase) (row : Option PeripheralRow) (subfields : List (List Piece)) → IsShort kind (peripheral_operand base row subfields)
peripheral_operand-short kind base None subfields = omega arith
peripheral_operand-short kind base (Some row) subfields = by_form-short kind row row.form (map (plain_of false base) subfields)

instruction_operand-short : (kind : DeckKind) (base : NumberBase) (name : List ℕ) (subfields : List (List Piece)) → IsShort kind (instruction_operand kind base name subfields)
instruction_operand-short Rel base name subfields = central_operand-short Rel (central_of base name subfields) (central_of-whole base name subfields)
instruction_operand-short Abs base name subfields = central_operand-short Abs (central_of base name subfields) (central_of-whole base name subfields)
instruction_operand-short Periph base name subfields = peripheral_operand-short Periph base (peripheral_row name) subfields

-- what is sized ends at most its size behind its place
sized-short : (kind : DeckKind) (place size : ℕ) → size ≤ 4 → (outcome_of_size kind place size).end ≤ place + 4
sized-short kind place size h = picked_cond (λ (outcome : Outcome). outcome.end ≤ place + 4) (nat_le (place + size) (most_words kind * units kind))
    (record { end = place + size; setting = Unchanged; letters = [] }) (stays_with place letter.A) (omega arith) (omega arith)

-- an instruction reaches at most four units, as long as its operand does
outcome-short : (kind : DeckKind) (operand : Operand) (block : List ℕ) (place : ℕ) (value : Option (Result Form Letter)) → IsShort kind operand →
    (outcome_of kind op.Instruction operand block place value).end ≤ place + 4
outcome-short kind operand block place None h = sized-short kind place (size_of kind operand) h
outcome-short kind operand block place (Some value) h = omega arith

instruction-short : (kind : DeckKind) (base : NumberBase) (operation : Operation) (operand : Operand) (name text : List ℕ) (block : List ℕ) (place : ℕ) (value : Option (Result Form Letter)) →
    operand ≡ operand_of kind base operation name text → operation ≡ op.Instruction → (outcome_of kind operation operand block place value).end ≤ place + 4
instruction-short kind base operation operand name text block place value is e =
    rw (is, e) (outcome-short kind (operand_of kind base op.Instruction name text) block place value (instruction_operand-short kind base name (subfields_of (pieces_of text))))

-- an operand that fills whole words, or nothing
abbrev FillsWords : Operand → Type 0
FillsWords (CentralOperand instruction) = ⊥
FillsWords (PeripheralOperand row values) = ⊥
FillsWords _ = Unit {0}

bare-words : (operand : Operand) → IsBare operand → FillsWords operand
bare-words (CentralOperand instruction) h = absurd h
bare-words (PeripheralOperand row values) h = absurd h
bare-words _ h = tt

words_operand-words : (words : Option (List Datum)) → FillsWords (words_operand words)
words_operand-words None = tt
words_operand-words (Some words) = tt

bits_operand-words : (fields : Option (List BitField)) → FillsWords (bits_operand fields)
bits_operand-words None = tt
bits_operand-words (Some fields) = tt

text_operand-words : (kind : DeckKind) (count : Option ℕ) (text : List ℕ) → FillsWords (text_operand kind count text)
text_operand-words kind None text = tt
text_operand-words kind (Some count) text = tt

dis_operand-words : (kind : DeckKind) (base : NumberBase) (text : List ℕ) → FillsWords (dis_operand kind base text)
dis_operand-words kind base text =
    let count = take_while (λ c. not (nat_eq c comma)) text in
    picked_cond FillsWords (nat_le (1 + length count) (length text)) _ _ (text_operand-words kind (count_read 100 (number_read base count)) (drop (1 + length count) text)) tt

-- only the operands of instructions do not
operand_of-words : (kind : DeckKind) (base : NumberBase) (operation : Operation) (name text : List ℕ) → operation ≢ op.Instruction → FillsWords (operand_of kind base operation name text)
operand_of-words kind base op.Instruction name text other = absurd (other refl)
operand_of-words kind base op.Data name text other = words_operand-words (all_read (data_word base) (subfields_of (pieces_of text)))
operand_of-words kind base op.Con name text other = words_operand-words (all_read (con_word (allows_literals kind) base) (subfields_of (pieces_of text)))
operand_of-words kind base op.Vfd name text other = bits_operand-words (all_read (vfd_field (allows_literals kind) base) (subfields_of (pieces_of text)))
operand_of-words kind base op.Dis name text other = dis_operand-words kind base text
operand_of-words kind base op.Bssz name text other = bare-words (one_value base (subfields_of (pieces_of text))) (one_value-bare base (subfields_of (pieces_of text)))
operand_of-words kind base operation name text other = bare-words (operand_of kind base operation name text) (operand_of-bare kind base operation name text refl)

-- words behind a word end at a word
words_behind : (kind : DeckKind) (place n : ℕ) → place % units kind ≡ 0 → (place + n * units kind) % units kind ≡ 0
words_behind Rel place n h = omega arith
words_behind Abs place n h = omega arith
words_behind Periph place n h = omega arith

words_whole : (kind : DeckKind) (n : ℕ) → n * units kind % units kind ≡ 0
words_whole Rel n = omega arith
words_whole Abs n = omega arith
words_whole Periph n = omega arith

-- whether an outcome ends at a word
abbrev EndsAtWord : DeckKind → Outcome → Type 0
EndsAtWord kind outcome = outcome.end % units kind ≡ 0

sized-words : (kind : DeckKind) (place size : ℕ) → place % units kind ≡ 0 → (place + size) % units kind ≡ 0 → EndsAtWord kind (outcome_of_size kind place size)
sized-words kind place size h behind = picked_cond (EndsAtWord kind) (nat_le (place + size) (most_words kind * units kind))
    (record { end = place + size; setting = Unchanged; letters = [] }) (stays_with place letter.A) behind h

origin-words : (kind : DeckKind) (place : ℕ) (word : Result ℕ Letter) → place % units kind ≡ 0 → EndsAtWord kind (origin_outcome kind place word)
origin-words kind place (Err fault) h = h
origin-words kind place (Ok n) h = words_whole kind n

location-words : (kind : DeckKind) (place : ℕ) (value : Result Form Letter) → place % units kind ≡ 0 → EndsAtWord kind (location_outcome place value)
location-words kind place (Err fault) h = h
location-words kind place (Ok form) h = h

reserved-words : (kind : DeckKind) (place : ℕ) (words : Result ℕ Letter) → place % units kind ≡ 0 → EndsAtWord kind (reserved_outcome kind place words)
reserved-words kind place (Err fault) h = h
reserved-words kind place (Ok n) h = words_behind kind place n h

value-words : (kind : DeckKind) (operation : Operation) (block : List ℕ) (place : ℕ) (value : Result Form Letter) → place % units kind ≡ 0 → EndsAtWord kind (outcome_of_value kind operation block place value)
value-words kind op.Org block place value h = origin-words kind place (origin_word kind block value) h
value-words kind op.Loc block place value h = location-words kind place (location_value kind value) h
value-words kind op.Bss block place value h = reserved-words kind place (reserved kind place value) h
value-words kind op.Bssz block place value h = reserved-words kind place (reserved kind place value) h
value-words kind _ block place value h = h

size_of-words : (kind : DeckKind) (operand : Operand) (place : ℕ) → FillsWords operand → place % units kind ≡ 0 → EndsAtWord kind (outcome_of_size kind place (size_of kind operand))
size_of-words kind (CentralOperand instruction) place words h = absurd words
size_of-words kind (PeripheralOperand row values) place words h = absurd words
size_of-words kind (WordsOperand data') place words h = sized-words kind place _ h (words_behind kind place (data_words kind data') h)
size_of-words kind (BitsOperand fields) place words h = sized-words kind place _ h (words_behind kind place ((bits_of fields + word_bits kind - 1) / word_bits kind) h)
size_of-words kind (TextOperand count characters) place words h = sized-words kind place _ h (words_behind kind place count h)
size_of-words kind _ place words h = sized-words kind place 0 h (let same : place + 0 ≡ place = omega arith in rw same h)

-- from a word, an operand of whole words reaches to a word
outcome-words : (kind : DeckKind) (operation : Operation) (operand : Operand) (block : List ℕ) (place : ℕ) (value : Option (Result Form Letter)) → FillsWords operand → place % units kind ≡ 0 →
    EndsAtWord kind (outcome_of kind operation operand block place value)
outcome-words kind operation operand block place None words h = size_of-words kind operand place words h
outcome-words kind operation operand block place (Some value) words h = value-words kind operation block place value h

-- what has to stand at a word does
place_of-at_word : (kind : DeckKind) (operation : Operation) (operand : Operand) (location : List ℕ) (position : Position) → has_place operation ≡ true → is_at_word operation operand ≡ true →
    place_of kind operation operand location position % units kind ≡ 0
place_of-at_word kind operation operand location position placed whole =
    rw placed (let may = least_place-lawful kind operation operand location position.asks position.end in may.data_at_word whole)

-- fields that are there are those of the operand, which is not bad
picked-good : (context : Context) (settled : Settled) (operand : Operand) (past : Bool) → HasFields (if past then [] else operand_items context settled operand) → is_bad operand ≡ false
picked-good context settled BadOperand true h = absurd h
picked-good context settled BadOperand false h = absurd h
picked-good context settled _ past h = refl

-- a statement with fields that is no instruction has to stand at a word
data-at_word : (context : Context) (settled : Settled) (operation : Operation) → operation ≢ op.Instruction → HasFields (items_of context settled operation) →
    (has_fields operation ≡ false → IsBare settled.read.operand) → (has_place operation ≡ true) × (is_at_word operation settled.read.operand ≡ true)
data-at_word context settled op.Instruction other h bare = absurd (other refl)
data-at_word context settled op.Bssz other h bare = (refl, refl)
data-at_word context settled op.Data other h bare = (refl, rw (picked-good context settled settled.read.operand (nat_le settled.end settled.place) h) refl)
data-at_word context settled op.Con other h bare = (refl, rw (picked-good context settled settled.read.operand (nat_le settled.end settled.place) h) refl)
data-at_word context settled op.Vfd other h bare = (refl, rw (picked-good context settled settled.read.operand (nat_le settled.end settled.place) h) refl)
data-at_word context settled op.Dis other h bare = (refl, rw (picked-good context settled settled.read.operand (nat_le settled.end settled.place) h) refl)
data-at_word context settled operation other h bare =
    let none = items_of-none context settled operation refl (bare refl) in absurd (rw none at h)

-- a statement that is settled from what is read of it
with-reach : (context : Context) (kind : DeckKind) (seen : Seen) (read : ReadStatement) (counters : Counters) (value : Option (Result Form Letter)) (base : NumberBase) (name text : List ℕ) →
    read.operand ≡ operand_of kind base read.operation name text →
    DoesReach kind (coded_of context (settled_with kind seen read (record { place = place_of kind read.operation read.operand read.fields.location seen.position; counters = counters; value = value })))
with-reach context kind seen read counters value base name text is =
    let place = place_of kind read.operation read.operand read.fields.location seen.position in
    let settled = settled_with kind seen read (record { place = place; counters = counters; value = value }) in
    let at_word : HasFields (items_of context settled read.operation) → read.operation ≢ op.Instruction → place % units kind ≡ 0 = λ some other.
    (let must = data-at_word context settled read.operation other some (λ e. rw is (operand_of-bare kind base read.operation name text e)) in
    place_of-at_word kind read.operation read.operand read.fields.location seen.position must.0 must.1) in
    record {
      instruction = λ some e. instruction-short kind base read.operation read.operand name text seen.block place value is e;
      from_word = at_word;
      to_word = λ some other. outcome-words kind read.operation read.operand seen.block place value (rw is (operand_of-words kind base read.operation name text other)) (at_word some other);
    }

-- a statement behind those that are settled
settle-reach : (kind : DeckKind) (earlier : List Settled) (statement : Statement) (context : Context) → DoesReach kind (coded_of context (settle kind earlier statement))
settle-reach kind earlier statement context =
    let seen = seen_of earlier in
    let read = read_of kind seen.number_base statement in
    let standing = standing_of kind seen read in
    with-reach context kind seen read standing.counters standing.value seen.number_base read.fields.operation read.fields.variable refl

-- all statements reach so
pub statements-reach : (kind : DeckKind) (statements : List Statement) (context : Context) → DoReach kind (map (coded_of context) (settled_all kind statements))
statements-reach kind [] context = tt
statements-reach kind (statement ∷ statements) context = (settle-reach kind (settled_all kind statements) statement context, statements-reach kind statements context)

-- and so do those of an object
pub object-reach : (deck : Deck) → DoReach (object_of deck).kind (object_of deck).coded
object-reach deck =
    let statements = up_to_end (statements_of (reverse deck.cards)) in
    let kind = kind_of_statements statements in
    statements-reach kind statements (context_of kind (settled_all kind statements))
