-- Whether an object stores a word beyond its memory, by its lines and its literals.
use Rattle.std.{proofs.Common.{ℕ, zero, suc, ◌≡◌, ◌+◌, ◌≤◌, Bool, true, false, not, ◌&&◌, ◌||◌, cond, List, [], ◌∷◌, Option, Some, None, length, take, drop, refl, sym, ap, ap₂, ◌∙◌, arith}, specs.Prelude.{map, nat_lt, nat_le, filter, flat_map, reverse, slice_get}, specs.List.list_any, proofs.lemmas.List.{length-drop, reverse-append}, proofs.lemmas.List.Folds.list_any-append, proofs.lemmas.Bool.Decides.nat_tests}
use Rattle.definitions.specs.{Blocks.{is_common, literals_block}, Characters.same_text, Cards.Card, Kinds.{memory_end, word_bits}, Lengths.BlockRow, Layout.{addressed, block_words, has_beyond, is_beyond, literal_stored}, Objects.Object, StatementItems.{Item, known}, Words.{Coded, Linking, StoredWord, stored_words}, declared.deck_kind.DeckKind.DeckKind}
use Rattle.statement_coder.specs.Joins.Items.{item_as}
use Rattle.deck_objects.specs.declared.lines.FieldLists.{FieldLists}
use Rattle.deck_objects.specs.{Joins.CodedLines.{AreCoded, IsCoded, IsNamed}, Joins.LineItems.{AreBitsOf, AreKept, kept_from, kept_items}, Joins.PartsOf.ArePartsOf, declared.lines.CodedLine.CodedLine, declared.lines.Line.Line, declared.lines.LineFields.LineFields, declared.object.ObjectParts.ObjectParts}
use Rattle.deck_objects.specs.declared.lines.LineFields.TheVariants as fields
use Rattle.deck_linker.{specs.Joins.Beyond.{coded_beyond, has_items, keeps_fields, literals_beyond, stores_beyond}, proofs.TestLaws.lt-true, proofs.WordLaws.{any-block, list_any-same}}

-- whether the block at an index has this name
abbrev pub is_named_at : List BlockRow → ℕ → List ℕ → Bool
is_named_at rows index name = elim (slice_get rows index) [ None ↦ false | Some row ↦ same_text row.name name ]

-- whether a line stores a word of this block there
abbrev pub line_of_row : DeckKind → List BlockRow → BlockRow → CodedLine → Bool
line_of_row kind rows row line =
    stores_beyond kind row.base line.place line.end && (not line.begins_run && (keeps_fields line.fields && is_named_at rows line.block row.name))

-- whether a line of the listing does
abbrev pub listed_of_row : DeckKind → List BlockRow → BlockRow → Line → Bool
listed_of_row kind rows row line = elim line.coded [ None ↦ false | Some coded ↦ line_of_row kind rows row coded ]

-- whether a block of an object stores a word there, by its lines and literals; a common block is not the object's
abbrev pub row_beyond : ObjectParts → BlockRow → Bool
row_beyond parts row =
    not (is_common row.name) && elim (same_text row.name literals_block) [
      | true ↦ literals_beyond parts.kind row.base (length parts.literals.items)
      | false ↦ list_any (listed_of_row parts.kind parts.bases row) parts.lines.items
    ]

-- words by their addresses
any-addressed : (kind : DeckKind) (base : ℕ) (words : List StoredWord) →
    list_any (is_beyond kind) (addressed base words) ≡ list_any (λ (word : StoredWord). nat_le (memory_end kind) (base + word.offset)) words
any-addressed kind base [] = refl
any-addressed kind base (word ∷ words) = ap (λ (b : Bool). nat_le (memory_end kind) (base + word.offset) || b) (any-addressed kind base words)

-- one literal more in front
literal-step : (limit at n : ℕ) → (nat_le limit at || (nat_lt 0 n && nat_lt limit (at + 1 + n))) ≡ nat_lt limit (at + suc n)
literal-step limit at zero = grind (arith, nat_tests)
literal-step limit at (suc n) = grind (arith, nat_tests)

-- literals from an offset on
any-literals : (kind : DeckKind) (base offset : ℕ) (literals : List ℕ) →
    list_any (λ (word : StoredWord). nat_le (memory_end kind) (base + word.offset)) (literal_stored offset literals)
    ≡ (nat_lt 0 (length literals) && nat_lt (memory_end kind) (base + offset + length literals))
any-literals kind base offset [] = refl
any-literals kind base offset (literal ∷ literals) =
    ap (λ (b : Bool). nat_le (memory_end kind) (base + offset) || b) (any-literals kind base (offset + 1) literals)
    ∙ ap (λ (n : ℕ). nat_le (memory_end kind) (base + offset) || (nat_lt 0 (length literals) && nat_lt (memory_end kind) n)) (moved base offset (length literals))
    ∙ literal-step (memory_end kind) (base + offset) (length literals)
    ∙ sym (ap (λ (t : Bool). t && nat_lt (memory_end kind) (base + offset + suc (length literals))) (lt-true 0 (suc (length literals)) (omega arith)))
  where
    moved : (base offset n : ℕ) → base + (offset + 1) + n ≡ base + offset + 1 + n
    moved base offset n = omega arith

-- whether a block of an object stores a word beyond memory, by whether it is that of the literals
abbrev block_by : Object → BlockRow → Bool → Bool
block_by object row literals = elim literals [
  | true ↦ literals_beyond object.kind row.base (length object.literals)
  | false ↦ list_any (coded_beyond object.kind row) object.coded
]

-- the same by its parts
abbrev kept_beyond : ObjectParts → BlockRow → Bool → Bool
kept_beyond parts row literals = elim literals [
  | true ↦ literals_beyond parts.kind row.base (length parts.literals.items)
  | false ↦ list_any (listed_of_row parts.kind parts.bases row) parts.lines.items
]

-- whether a block of an object stores a word beyond memory
abbrev block_beyond : Object → BlockRow → Bool
block_beyond object row = block_by object row (same_text row.name literals_block)

-- the words of a block
any-words : (linking : Linking) (object : Object) (row : BlockRow) →
    list_any (is_beyond object.kind) (addressed (0 + row.base) (block_words linking object row)) ≡ block_beyond object row
any-words linking object row =
    ap (λ (n : ℕ). list_any (is_beyond object.kind) (addressed n (block_words linking object row))) (none row.base)
    ∙ by_test (same_text row.name literals_block)
  where
    none : (n : ℕ) → 0 + n ≡ n
    none n = omega arith

    at-zero : (n m : ℕ) → n + 0 + m ≡ n + m
    at-zero n m = omega arith

    by_test : (t : Bool) → list_any (is_beyond object.kind) (addressed row.base (elim t [
      | true ↦ literal_stored 0 object.literals
      | false ↦ stored_words object.kind linking row.name object.coded
    ])) ≡ block_by object row t
    by_test true =
        any-addressed object.kind row.base (literal_stored 0 object.literals)
        ∙ any-literals object.kind row.base 0 object.literals
        ∙ ap (λ (n : ℕ). nat_lt 0 (length object.literals) && nat_lt (memory_end object.kind) n) (at-zero row.base (length object.literals))
    by_test false = any-addressed object.kind row.base (stored_words object.kind linking row.name object.coded) ∙ any-block object.kind row linking object.coded

-- what is found in the parts of some
any-flat : {X Y : Type 0} (p : Y → Bool) (f : X → List Y) (keep : X → Bool) (xs : List X) →
    list_any p (flat_map f (filter keep xs)) ≡ list_any (λ (x : X). keep x && list_any p (f x)) xs
any-flat {X = X} p f keep [] = refl
any-flat {X = X} p f keep (x ∷ xs) = by_test (any-flat p f keep xs) (keep x)
  where
    by_test : list_any p (flat_map f (filter keep xs)) ≡ list_any (λ (y : X). keep y && list_any p (f y)) xs → (t : Bool) →
        list_any p (flat_map f (cond t (x ∷ filter keep xs) (filter keep xs))) ≡ ((t && list_any p (f x)) || list_any (λ (y : X). keep y && list_any p (f y)) xs)
    by_test rest true = list_any-append p (f x) (flat_map f (filter keep xs)) ∙ ap (λ (b : Bool). list_any p (f x) || b) rest
    by_test rest false = rest

-- an object by its blocks
any-rows : (object : Object) → has_beyond object ≡ list_any (λ (row : BlockRow). not (is_common row.name) && block_beyond object row) object.rows
any-rows object =
    any-flat (is_beyond object.kind) (λ (row : BlockRow). addressed (0 + row.base) (block_words (λ width form. 0) object row)) (λ (row : BlockRow). not (is_common row.name)) object.rows
    ∙ list_any-same
    (λ (row : BlockRow). not (is_common row.name) && list_any (is_beyond object.kind) (addressed (0 + row.base) (block_words (λ width form. 0) object row)))
    (λ (row : BlockRow). not (is_common row.name) && block_beyond object row)
    (λ (row : BlockRow). ap (λ (b : Bool). not (is_common row.name) && b) (any-words (λ width form. 0) object row))
    object.rows

-- a line keeps fields where it has some
some-items : (kept items : List Item) → AreBitsOf kept items → has_items kept ≡ has_items items
some-items [] [] bits = refl
some-items [] (item ∷ items) bits = absurd (bits.some tt)
some-items (other ∷ kept) [] bits = absurd (none-left other kept (bits.none refl))
  where
    none-left : (other : Item) (kept : List Item) → other ∷ kept ≡ [] → ⊥
    none-left other kept e = cc
some-items (other ∷ kept) (item ∷ items) bits = refl

-- so many of a list, which has as many
some-listed : {A : Type 0} (field : A → Item) (count : ℕ) (all : List A) → count ≤ length all → nat_lt 0 count ≡ has_items (map field (take count all))
some-listed field zero all h = refl
some-listed field (suc count) [] h = absurd (omega arith)
some-listed field (suc count) (x ∷ all) h = lt-true 0 (suc count) (omega arith)

-- a line keeps fields
keeps : (kind : DeckKind) (lists : FieldLists) (line : CodedLine) (place end : ℕ) (kept : LineFields) → AreKept kind lists line kept →
    keeps_fields kept ≡ has_items (kept_from kind lists place end kept)
keeps kind lists line place end fields.Absent h = refl
keeps kind lists line place end (fields.Known bits) h = refl
keeps kind lists line place end (fields.Words first count) h =
    some-listed (known (word_bits kind)) count (drop first lists.words.items) (let within = h.1.0 in omega (arith, length-drop first lists.words.items))
keeps kind lists line place end (fields.Listed first count) h =
    some-listed item_as count (drop first lists.items.items) (let within = h.0 in omega (arith, length-drop first lists.items.items))
keeps kind lists line place end fields.Zeros h = refl

-- the block of a line
named : (o : Option BlockRow) (block name : List ℕ) → IsNamed o block → elim o [ None ↦ false | Some row ↦ same_text row.name name ] ≡ same_text block name
named None block name h = absurd h
named (Some row) block name h = ap (λ (text : List ℕ). same_text text name) h

-- four tests that are all true, in the other order
turned : (a b c d : Bool) → (a && (b && (c && d))) ≡ (d && (b && (c && a)))
turned true true true true = refl
turned true true true false = refl
turned true true false true = refl
turned true true false false = refl
turned true false c true = refl
turned true false c false = refl
turned false true true true = refl
turned false true true false = refl
turned false true false true = refl
turned false true false false = refl
turned false false c true = refl
turned false false c false = refl

-- a line is its statement
line-coded : (kind : DeckKind) (rows : List BlockRow) (lists : FieldLists) (row : BlockRow) (line : CodedLine) (coded : Coded) → IsCoded kind rows lists line coded →
    line_of_row kind rows row line ≡ coded_beyond kind row coded
line-coded kind rows lists row line coded is =
    let stores : stores_beyond kind row.base line.place line.end ≡ stores_beyond kind row.base coded.settled.place coded.settled.end =
    ap₂ (λ (place end : ℕ). stores_beyond kind row.base place end) is.place is.end in
    let begins : not line.begins_run ≡ not coded.settled.begins_run = ap not is.begins_run in
    let keeps_some : keeps_fields line.fields ≡ has_items coded.fields =
    keeps kind lists line line.place line.end line.fields is.kept ∙ some-items (kept_items kind lists line) coded.fields is.fields in
    let block : is_named_at rows line.block row.name ≡ same_text coded.settled.block row.name = named (slice_get rows line.block) coded.settled.block row.name is.block in
    ap₂ (λ (a b : Bool). a && (b && (keeps_fields line.fields && is_named_at rows line.block row.name))) stores begins
    ∙ ap₂ (λ (c d : Bool). stores_beyond kind row.base coded.settled.place coded.settled.end && (not coded.settled.begins_run && (c && d))) keeps_some block
    ∙ turned (stores_beyond kind row.base coded.settled.place coded.settled.end) (not coded.settled.begins_run) (has_items coded.fields) (same_text coded.settled.block row.name)

-- the statements of lines, by what the first line stores
abbrev CodedBy : DeckKind → List BlockRow → FieldLists → List Line → Option CodedLine → List Coded → Type 0
CodedBy kind rows lists lines stored all = elim stored [
  | None ↦ AreCoded kind rows lists lines all
  | Some line ↦ elim all [ [] ↦ ⊥ | coded ∷ others ↦ IsCoded kind rows lists line coded × AreCoded kind rows lists lines others ]
]

-- whether a line stores a word beyond memory, by what it stores
abbrev beyond_by : DeckKind → List BlockRow → BlockRow → Option CodedLine → Bool
beyond_by kind rows row stored = elim stored [ None ↦ false | Some line ↦ line_of_row kind rows row line ]

-- lines are their statements
lines-coded : (kind : DeckKind) (rows : List BlockRow) (lists : FieldLists) (row : BlockRow) (lines : List Line) (all : List Coded) → AreCoded kind rows lists lines all →
    list_any (listed_of_row kind rows row) lines ≡ list_any (coded_beyond kind row) all
lines-coded kind rows lists row [] [] are = refl
lines-coded kind rows lists row [] (coded ∷ others) are = absurd are
lines-coded kind rows lists row (line ∷ lines) all are = by_line line.coded all (λ (others : List Coded). lines-coded kind rows lists row lines others) are
  where
    by_line : (stored : Option CodedLine) (all : List Coded) →
        ((others : List Coded) → AreCoded kind rows lists lines others → list_any (listed_of_row kind rows row) lines ≡ list_any (coded_beyond kind row) others) →
        CodedBy kind rows lists lines stored all →
        (beyond_by kind rows row stored || list_any (listed_of_row kind rows row) lines) ≡ list_any (coded_beyond kind row) all
    by_line None all rest are = rest all are
    by_line (Some coded) [] rest are = absurd are
    by_line (Some coded) (first ∷ others) rest are = ap₂ (λ (a b : Bool). a || b) (line-coded kind rows lists row coded first are.0) (rest others are.1)

-- what is found in a list is found from its end
or-turned : (a b : Bool) → (a || b) ≡ (b || (a || false))
or-turned true true = refl
or-turned true false = refl
or-turned false true = refl
or-turned false false = refl

any-reverse : {X : Type 0} (p : X → Bool) (xs : List X) → list_any p (reverse xs) ≡ list_any p xs
any-reverse {X = X} p [] = refl
any-reverse {X = X} p (x ∷ xs) =
    ap (λ (all : List X). list_any p all) (reverse-append (x ∷ []) xs)
    ∙ list_any-append p (reverse xs) (x ∷ [])
    ∙ ap (λ (b : Bool). b || (p x || false)) (any-reverse p xs)
    ∙ sym (or-turned (p x) (list_any p xs))

-- the blocks of an object show whether it stores a word beyond its memory
pub rows-beyond : (cards : List Card) (parts : ObjectParts) (object : Object) → ArePartsOf cards parts object → list_any (row_beyond parts) parts.bases ≡ has_beyond object
rows-beyond cards parts object are =
    list_any-same (row_beyond parts) (λ (row : BlockRow). not (is_common row.name) && block_beyond object row) by_row parts.bases
    ∙ ap (λ (rows : List BlockRow). list_any (λ (row : BlockRow). not (is_common row.name) && block_beyond object row) rows) are.rows
    ∙ sym (any-rows object)
  where
    block : (row : BlockRow) (t : Bool) → kept_beyond parts row t ≡ block_by object row t
    block row true = ap₂ (λ (kind : DeckKind) (literals : List ℕ). literals_beyond kind row.base (length literals)) are.kind are.literals
    block row false =
        lines-coded parts.kind parts.bases parts.fields row parts.lines.items (reverse object.coded) are.coded
        ∙ any-reverse (coded_beyond parts.kind row) object.coded
        ∙ ap (λ (kind : DeckKind). list_any (coded_beyond kind row) object.coded) are.kind

    by_row : (row : BlockRow) → row_beyond parts row ≡ (not (is_common row.name) && block_beyond object row)
    by_row row = ap (λ (b : Bool). not (is_common row.name) && b) (block row (same_text row.name literals_block))
