-- The words of a subfield of DATA or CON.
use Rattle.std.proofs.Common.{◌≡◌, ◌∙◌, ℕ, ◌*◌, ◌/◌, ◌^◌, ◌≤◌, ◌<◌, List, [], ◌∷◌, ◌++◌, length, map, flat_map, ap, sym, arith, append_assoc, append-nil, refl}
use Rattle.definitions.{specs.CountedItems.CountedItem, specs.Expressions.{Expression, Sign}, specs.Symbols.{Number, Value, TooGreat}, specs.Literals.signed_number, specs.Forms.characters_number, specs.Coding.{coded_in, counted_item_bits, words_needed}, specs.Kinds.word_bits, specs.Operands.Datum, specs.Settled.Settled, specs.StatementItems.{Item, Context, known, known_if, number_item, expression_item, datum_item}, specs.Words.cut, specs.declared.deck_kind.DeckKind.DeckKind, specs.declared.deck_kind.DeckKind.TheVariants.{Rel, Abs, Periph}, proofs.LiteralLaws.characters_number-below}
use Rattle.expr_forms.{specs.Joins.CodedItems.in_places, proofs.CodedLaws.{counted_item_bits-whole, length-in_places, word_bits-characters, words_needed-room}}
use Rattle.statement_coder.{specs.Joins.WordItems.{known_words, in_words}, proofs.WidthLaws.{width-known_if, width-expression_item}, proofs.WordItemLaws.{in_words-narrow, in_words-known}}

pub word_bits-some : (kind : DeckKind) → 0 < word_bits kind
word_bits-some Rel = omega arith
word_bits-some Abs = omega arith
word_bits-some Periph = omega arith

-- an expression of CON is one word
pub expression-word : (context : Context) (settled : Settled) (word : ℕ) (e : Expression) → in_words word (expression_item context settled word e) ≡ expression_item context settled word e ∷ []
expression-word context settled word e = in_words-narrow word (expression_item context settled word e) (let w = width-expression_item context settled word e in omega arith)

-- a number of DATA is one word
pub number-word : (word : ℕ) (sign : Sign) (number : Number) → in_words word (number_item word sign number) ≡ number_item word sign number ∷ []
number-word word sign (Value size) =
    let bits = coded_in word (signed_number sign size) in
    in_words-narrow word (known_if word bits) (let w = width-known_if word bits in omega arith)
number-word word sign TooGreat = refl

-- the bits of an item fit its words
item-fits : (kind : DeckKind) (item : CountedItem) → let words = words_needed (word_bits kind) item in counted_item_bits (words * word_bits kind) item < 2 ^ (words * word_bits kind)
item-fits kind item =
    let words = words_needed (word_bits kind) item in
    let places = words * (word_bits kind / 6) in
    let room = words_needed-room kind item in
    let bits : words * word_bits kind ≡ 6 * places = ap (λ n. words * n) (word_bits-characters kind) ∙ omega arith in
    let below : characters_number (in_places places item) < 2 ^ (6 * places) =
    let b = characters_number-below (in_places places item) in rw (length-in_places places item room) at b in
    let same = counted_item_bits-whole places item room in
    let here : counted_item_bits (6 * places) item < 2 ^ (6 * places) = omega arith in
    rw bits here

-- an item that has characters needs a word
item-some : (kind : DeckKind) (item : CountedItem) → 1 ≤ length item.characters → 0 < words_needed (word_bits kind) item
item-some Rel item some = omega arith
item-some Abs item some = omega arith
item-some Periph item some = omega arith

-- an item of DATA is as many words as it needs
pub item-words : (kind : DeckKind) (item : CountedItem) → 1 ≤ length item.characters → let words = words_needed (word_bits kind) item in
    in_words (word_bits kind) (known (words * word_bits kind) (counted_item_bits (words * word_bits kind) item)) ≡ known_words (word_bits kind) (cut (word_bits kind) words (counted_item_bits (words * word_bits kind) item))
item-words kind item some =
    let words = words_needed (word_bits kind) item in
    in_words-known (word_bits kind) words (counted_item_bits (words * word_bits kind) item) (word_bits-some kind) (item-some kind item some) (item-fits kind item)

pub word_bits-few : (kind : DeckKind) → word_bits kind ≤ 60
word_bits-few Rel = omega arith
word_bits-few Abs = omega arith
word_bits-few Periph = omega arith

-- the words of these subfields
abbrev pub words_behind : Context → Settled → ℕ → List Datum → List Item
words_behind context statement word subfields = flat_map (in_words word) (map (datum_item context statement) subfields)

-- one subfield more
pub one_datum_more : (context : Context) (statement : Settled) (word : ℕ) (now after all : List Item) (datum : Datum) (old rest : List Datum) →
    old ≡ datum ∷ rest → after ≡ now ++ in_words word (datum_item context statement datum) →
    now ++ words_behind context statement word old ≡ all → after ++ words_behind context statement word rest ≡ all
one_datum_more context statement word now after all datum old rest o a h =
    ap (λ l. l ++ words_behind context statement word rest) a
    ∙ append_assoc now (in_words word (datum_item context statement datum)) (words_behind context statement word rest)
    ∙ ap (λ (l : List Datum). now ++ words_behind context statement word l) (sym o)
    ∙ h

-- no subfield more
pub no_datum_more : (context : Context) (statement : Settled) (word : ℕ) (now all : List Item) (old : List Datum) →
    old ≡ [] → now ++ words_behind context statement word old ≡ all → now ≡ all
no_datum_more context statement word now all old o h =
    sym (append-nil now) ∙ ap (λ (l : List Datum). now ++ words_behind context statement word l) (sym o) ∙ h
