-- The lines of words, one after the other.
use Rattle.std.{proofs.Common.{◌≡◌, codes, ℕ, zero, suc, ◌+◌, ◌-◌, ◌^◌, ◌<◌, ◌≤◌, Bool, true, false, List, [], ◌∷◌, ◌++◌, not, flat_map, length, take, get_or, refl, sym, ap, ◌∙◌, append_assoc, append-nil, Some, None, nat_le, arith, inl, inr}, specs.Prelude.{filter, min, if◌then◌else◌}, proofs.lemmas.Bool.Decides.leb_tells, proofs.lemmas.List.take_more, proofs.lemmas.List.Elements.filter-append, proofs.lemmas.Grind.flat_map-append}
use Rattle.definitions.specs.{Blocks.is_common, Image.word_line, Kinds.memory_end, Lengths.BlockRow, Layout.{AddressedWord, addressed, block_words, is_beyond}, Listing.line, Numerals.octal_of, Objects.Object, Words.{Linking, StoredWord}, declared.deck_kind.DeckKind.DeckKind, declared.deck_kind.DeckKind.TheVariants.{Rel, Abs, Periph}}
use Rattle.parcel_packer.specs.{Joins.Filling.{as_stored, words_from}, declared.word_spans.WordSpan.WordSpan}
use Rattle.deck_listing.specs.Joins.ImageWordLines.{block_lines, equal_lines, lines_of, octal_lines, row_words, rows_words, span_lines}

lines-append : (kind : DeckKind) (xs ys : List AddressedWord) → lines_of kind (xs ++ ys) ≡ lines_of kind xs ++ lines_of kind ys
lines-append kind xs ys =
    ap (flat_map (word_line kind)) (filter-append (λ word. not (is_beyond kind word)) xs ys)
    ∙ flat_map-append (word_line kind) (filter (λ word. not (is_beyond kind word)) xs) (filter (λ word. not (is_beyond kind word)) ys)

stored-append : (xs ys : List WordSpan) → as_stored (xs ++ ys) ≡ as_stored xs ++ as_stored ys
stored-append [] ys = refl
stored-append (x ∷ xs) ys =
    ap (λ (rest : List StoredWord). words_from x.offset x.count x.value ++ rest) (stored-append xs ys) ∙ sym (append_assoc (words_from x.offset x.count x.value) (as_stored xs) (as_stored ys))

addressed-append : (base : ℕ) (xs ys : List StoredWord) → addressed base (xs ++ ys) ≡ addressed base xs ++ addressed base ys
addressed-append base [] ys = refl
addressed-append base (x ∷ xs) ys = ap (λ (rest : List AddressedWord). record { address = base + x.offset; value = x.value } ∷ rest) (addressed-append base xs ys)

block-append : (kind : DeckKind) (base block : ℕ) (xs ys : List WordSpan) → block_lines kind base block (xs ++ ys) ≡ block_lines kind base block xs ++ block_lines kind base block ys
block-append kind base block xs ys =
    ap (λ ws. lines_of kind (addressed (base + block) ws)) (stored-append xs ys)
    ∙ ap (lines_of kind) (addressed-append (base + block) (as_stored xs) (as_stored ys))
    ∙ lines-append kind (addressed (base + block) (as_stored xs)) (addressed (base + block) (as_stored ys))

-- the lines of words, the first of which lies within the memory
first_line : (kind : DeckKind) (base offset count value : ℕ) → nat_le (memory_end kind) (base + offset) ≡ false →
    span_lines kind base offset (suc count) value ≡ word_line kind (record { address = base + offset; value = value }) ++ span_lines kind base (offset + 1) count value
first_line kind base offset count value e = rw e refl

pub is_within : (test : Bool) (n address : ℕ) → (if test then None else Some n) ≡ Some address → (test ≡ false) × (n ≡ address)
is_within true n address e = cc
is_within false n address e = (refl, cc)

pub is_beyond_end : (test : Bool) (n : ℕ) → (if test then None else Some n) ≡ None → test ≡ true
is_beyond_end true n e = refl
is_beyond_end false n e = cc

-- one word more of so many of one value
pub octal_more : (address_digits value_digits address count value i : ℕ) (end before all : List ℕ) → i < count → end ≡ codes " " ++ line (octal_of value_digits value) →
    before ++ octal_lines address_digits value_digits (address + i) (count - i) value ≡ all →
    (before ++ (octal_of address_digits (address + i) ++ end)) ++ octal_lines address_digits value_digits (address + (i + 1)) (count - (i + 1)) value ≡ all
octal_more address_digits value_digits address count value i end before all h is lines =
    let digits = octal_of address_digits (address + i) in
    let value_text = codes " " ++ octal_of value_digits value in
    let left = count - (i + 1) in
    let next : address + (i + 1) ≡ address + i + 1 = omega arith in
    let some : suc left ≡ count - i = omega arith in
    let same : digits ++ end ≡ line (digits ++ value_text) = ap (λ e. digits ++ e) is ∙ sym (append_assoc digits value_text (line [])) in
    ap (λ l. (before ++ l) ++ octal_lines address_digits value_digits (address + (i + 1)) left value) same
    ∙ append_assoc before (line (digits ++ value_text)) (octal_lines address_digits value_digits (address + (i + 1)) left value)
    ∙ ap (λ n. before ++ (line (digits ++ value_text) ++ octal_lines address_digits value_digits n left value)) next
    ∙ ap (λ n. before ++ octal_lines address_digits value_digits (address + i) n value) some
    ∙ lines

equal_none : (kind : DeckKind) (address value : ℕ) → equal_lines kind address 0 value ≡ []
equal_none Rel address value = refl
equal_none Abs address value = refl
equal_none Periph address value = refl

equal_first : (kind : DeckKind) (address count value : ℕ) →
    equal_lines kind address (suc count) value ≡ word_line kind (record { address = address; value = value }) ++ equal_lines kind (address + 1) count value
equal_first Rel address count value = refl
equal_first Abs address count value = refl
equal_first Periph address count value = refl

-- one word alone
pub equal_one : (kind : DeckKind) (address value : ℕ) → equal_lines kind address 1 value ≡ word_line kind (record { address = address; value = value })
equal_one kind address value =
    let here = word_line kind (record { address = address; value = value }) in
    equal_first kind address 0 value ∙ ap (λ l. here ++ l) (equal_none kind (address + 1) value) ∙ append-nil here

-- words beyond the memory have no lines
beyond_none : (kind : DeckKind) (base offset count value : ℕ) → memory_end kind ≤ base + offset → span_lines kind base offset count value ≡ []
beyond_none kind base offset zero value h = refl
beyond_none kind base offset (suc count) value h = elim (leb_tells (memory_end kind) (base + offset)) [
  | inl e ↦ rw e.0 (beyond_none kind base (offset + 1) count value (omega arith))
  | inr e ↦ let k = e.1 in absurd (omega arith)
]

-- those of a span that lie within the memory
span_within : (kind : DeckKind) (base offset count value : ℕ) → span_lines kind base offset count value ≡ equal_lines kind (base + offset) (min (memory_end kind - (base + offset)) count) value
span_within kind base offset zero value =
    let none : 0 ≡ min (memory_end kind - (base + offset)) 0 = omega arith in
    sym (equal_none kind (base + offset) value) ∙ ap (λ n. equal_lines kind (base + offset) n value) none
span_within kind base offset (suc count) value = elim (leb_tells (memory_end kind) (base + offset)) [
  | inl e ↦
      let beyond = e.1 in
      let none : 0 ≡ min (memory_end kind - (base + offset)) (suc count) = omega arith in
      beyond_none kind base offset (suc count) value beyond ∙ sym (equal_none kind (base + offset) value) ∙ ap (λ n. equal_lines kind (base + offset) n value) none
  | inr e ↦
      let within = e.1 in
      let here = word_line kind (record { address = base + offset; value = value }) in
      let next : base + (offset + 1) ≡ base + offset + 1 = omega arith in
      let left = min (memory_end kind - (base + (offset + 1))) count in
      let more : suc left ≡ min (memory_end kind - (base + offset)) (suc count) = omega arith in
      first_line kind base offset count value e.0
      ∙ ap (λ l. here ++ l) (span_within kind base (offset + 1) count value)
      ∙ ap (λ n. here ++ equal_lines kind n left value) next
      ∙ sym (equal_first kind (base + offset) left value)
      ∙ ap (λ n. equal_lines kind (base + offset) n value) more
]

memory_small : (kind : DeckKind) → memory_end kind ≤ 0o400000
memory_small Rel = omega arith
memory_small Abs = omega arith
memory_small Periph = omega arith

-- the same from an address that is held below 2 ^ 64
pub span_put : (kind : DeckKind) (base offset count value address : ℕ) (before text after : List ℕ) → address ≡ min (min base (2 ^ 64 - 1) + offset) (2 ^ 64 - 1) → text ≡ before →
    after ≡ text ++ equal_lines kind address (min (memory_end kind - address) count) value → after ≡ before ++ span_lines kind base offset count value
span_put kind base offset count value address before text after at kept put =
    let small = memory_small kind in
    put
    ∙ ap (λ t. t ++ equal_lines kind address (min (memory_end kind - address) count) value) kept
    ∙ ap (λ l. before ++ l)
    (elim (leb_tells (2 ^ 64 - 1) (base + offset)) [
      | inl e ↦
          let past = e.1 in
          let none : min (memory_end kind - address) count ≡ 0 = omega arith in
          ap (λ n. equal_lines kind address n value) none ∙ equal_none kind address value ∙ sym (beyond_none kind base offset count value (omega arith))
      | inr e ↦
          let within = e.1 in
          let same : address ≡ base + offset = omega arith in
          ap (λ n. equal_lines kind n (min (memory_end kind - n) count) value) same ∙ sym (span_within kind base offset count value)
    ])

-- one span more
pub span_more : (kind : DeckKind) (base block : ℕ) (words : List WordSpan) (i : ℕ) (d : WordSpan) (start before after : List ℕ) → i < length words →
    before ≡ start ++ block_lines kind base block (take i words) → after ≡ before ++ span_lines kind (base + block) (get_or words i d).offset (get_or words i d).count (get_or words i d).value →
    after ≡ start ++ block_lines kind base block (take (i + 1) words)
span_more kind base block words i d start before after h b a =
    let more = block_lines kind base block (get_or words i d ∷ []) in
    a ∙ ap (λ l. before ++ lines_of kind (addressed (base + block) l)) (sym (append-nil (words_from (get_or words i d).offset (get_or words i d).count (get_or words i d).value)))
    ∙ ap (λ t. t ++ more) b
    ∙ append_assoc start (block_lines kind base block (take i words)) more
    ∙ ap (λ l. start ++ l)
    (sym (block-append kind base block (take i words) (get_or words i d ∷ [])) ∙ ap (block_lines kind base block) (sym (take_more words i d h)))

-- one block more
pub row_more : (kind : DeckKind) (linking : Linking) (object : Object) (base : ℕ) (rows : List BlockRow) (i : ℕ) (d : BlockRow) (start before after : List ℕ) → i < length rows →
    before ≡ start ++ lines_of kind (rows_words linking object base (take i rows)) → after ≡ before ++ lines_of kind (row_words linking object base (get_or rows i d)) →
    after ≡ start ++ lines_of kind (rows_words linking object base (take (i + 1) rows))
row_more kind linking object base rows i d start before after h b a =
    let words = row_words linking object base in
    let row = get_or rows i d in
    a ∙ ap (λ t. t ++ lines_of kind (words row)) b
    ∙ append_assoc start (lines_of kind (flat_map words (take i rows))) (lines_of kind (words row))
    ∙ ap (λ l. start ++ l)
    (sym (lines-append kind (flat_map words (take i rows)) (words row))
    ∙ ap (λ ws. lines_of kind (flat_map words (take i rows) ++ ws)) (sym (append-nil (words row)))
    ∙ ap (lines_of kind) (sym (flat_map-append words (take i rows) (row ∷ [])) ∙ ap (flat_map words) (sym (take_more rows i d h))))

-- the words of all blocks
pub all_rows : (linking : Linking) (object : Object) (base : ℕ) (rows : List BlockRow) →
    rows_words linking object base rows ≡ flat_map (λ (row : BlockRow). addressed (base + row.base) (block_words linking object row)) (filter (λ (row : BlockRow). not (is_common row.name)) rows)
all_rows linking object base [] = refl
all_rows linking object base (row ∷ rows) = by_test (is_common row.name) (all_rows linking object base rows)
  where
    own : List BlockRow → List AddressedWord
    own rs = flat_map (λ (r : BlockRow). addressed (base + r.base) (block_words linking object r)) rs

    by_test : (b : Bool) → rows_words linking object base rows ≡ own (filter (λ (r : BlockRow). not (is_common r.name)) rows) →
        (if b then [] else addressed (base + row.base) (block_words linking object row)) ++ rows_words linking object base rows
        ≡ own (if not b then row ∷ filter (λ (r : BlockRow). not (is_common r.name)) rows else filter (λ (r : BlockRow). not (is_common r.name)) rows)
    by_test true e = e
    by_test false e = ap (λ ws. addressed (base + row.base) (block_words linking object row) ++ ws) e

-- a row by another name
pub row_put : (kind : DeckKind) (linking : Linking) (object : Object) (base : ℕ) (row other : BlockRow) (before after : List ℕ) → row ≡ other →
    after ≡ before ++ lines_of kind (row_words linking object base row) → after ≡ before ++ lines_of kind (row_words linking object base other)
row_put kind linking object base row other before after e h = h ∙ ap (λ r. before ++ lines_of kind (row_words linking object base r)) e
