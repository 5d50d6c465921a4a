-- Words that are known, as the fields of a statement.
use Rattle.std.{proofs.Common.{◌≡◌, ℕ, suc, ◌+◌, ◌*◌, ◌/◌, ◌^◌, ◌<◌, ◌≤◌, Bool, true, false, List, [], ◌∷◌, ◌++◌, length, length-take-le, take, drop, get_or, zero, refl, ap, subst, ◌∙◌, arith}, proofs.lemmas.List.{length-drop}}
use Rattle.definitions.specs.{Kinds.word_bits, Operations.is_instruction, Lengths.BlockRow, Listing.unlinked, Words.{cut, joined, width_of}, declared.deck_kind.DeckKind.DeckKind, declared.deck_kind.DeckKind.TheVariants.{Rel, Abs, Periph}}
use Rattle.statement_coder.specs.Joins.WordItems.{known_words}
use Rattle.deck_objects.specs.{Joins.LineItems.{AreKept, AreShort, kept_from}, declared.lines.CodedLine.CodedLine, declared.lines.FieldLists.FieldLists, declared.lines.LineFields.LineFields}
use Rattle.deck_objects.specs.declared.lines.LineFields.TheVariants as variant
use Rattle.operations.specs.Joins.OperationsAs.{operation_as}
use Rattle.deck_listing.{specs.Joins.ListedParts.IsListable, specs.Joins.WordLines.{has_one_line, word_line, word_lines}, proofs.CutLaws.cut-front, proofs.WordLaws.joined-below}

width-known : (word : ℕ) (words : List ℕ) → width_of (known_words word words) ≡ length words * word
width-known word [] = omega arith
width-known word (bits ∷ words) = let rest = width-known word words in omega (arith, rest)

-- joined and cut they are the words again
cut-known : (rows : List BlockRow) (word : ℕ) (words : List ℕ) → AreShort (known_words word words) → cut word (length words) (joined (unlinked rows) (known_words word words)) ≡ words
cut-known rows word [] short = refl
cut-known rows word (bits ∷ words) short =
    let rest = joined (unlinked rows) (known_words word words) in
    let wide = width-known word words in
    ap (λ n. cut word (suc (length words)) (bits * 2 ^ n + rest)) wide
    ∙ cut-front word (length words) bits rest short.1.0 (subst (λ n. rest < 2 ^ n) wide (joined-below rows (known_words word words) short.1.1))
    ∙ ap (λ (ws : List ℕ). bits ∷ ws) (cut-known rows word words short.1.1)

count-known : (kind : DeckKind) (words : List ℕ) → width_of (known_words (word_bits kind) words) / word_bits kind ≡ length words
count-known Rel words = let wide = width-known 60 words in omega (arith, wide)
count-known Abs words = let wide = width-known 60 words in omega (arith, wide)
count-known Periph words = let wide = width-known 12 words in omega (arith, wide)

pub words-known : (kind : DeckKind) (rows : List BlockRow) (words : List ℕ) → AreShort (known_words (word_bits kind) words) →
    cut (word_bits kind) (width_of (known_words (word_bits kind) words) / word_bits kind) (joined (unlinked rows) (known_words (word_bits kind) words)) ≡ words
words-known kind rows words short =
    ap (λ n. cut (word_bits kind) n (joined (unlinked rows) (known_words (word_bits kind) words))) (count-known kind words) ∙ cut-known rows (word_bits kind) words short

-- the word at an index is there, whatever is said of an index behind all
pub word-at : (words : List ℕ) (i : ℕ) → i < length words → get_or words i 0 ≡ get_or words i (get_or words i 0)
word-at [] i h = absurd (omega arith)
word-at (bits ∷ words) zero h = refl
word-at (bits ∷ words) (suc i) h = word-at words i (omega arith)

-- the line of the first of words, and those of the others
pub lines-next : (kind : DeckKind) (word bits : ℕ) (words : List ℕ) → word_lines kind word (bits ∷ words) ≡ word_line kind word bits ++ word_lines kind (word + 1) words
lines-next Rel word bits words = refl
lines-next Abs word bits words = refl
lines-next Periph word bits words = refl

-- two words and more have no line together
pub several-lines : (kind : DeckKind) (lists : FieldLists) (line : CodedLine) (first count : ℕ) → line.fields ≡ variant.Words first count → IsListable kind lists line →
    has_one_line kind (operation_as line.operation) ≡ false
several-lines kind lists line first count e is =
    let words = take count (drop first lists.words.items) in
    let kept = subst (λ (f : LineFields). AreKept kind lists line f) e is.kept in
    let within = kept.1.0 in
    let many : length words ≡ count = length-take-le count (drop first lists.words.items) (omega (arith, within, length-drop first lists.words.items)) in
    let short = subst (λ (f : LineFields). has_one_line kind (operation_as line.operation) ≡ true → width_of (kept_from kind lists line.place line.end f) ≤ 60) e is.short in
    several kind words (omega (arith, many, kept.0)) short
  where
    none : (b : Bool) (words : List ℕ) → 2 ≤ length words → (b ≡ true → width_of (known_words 60 words) ≤ 60) → b ≡ false
    none false words some short = refl
    none true words some short = absurd (let wide = width-known 60 words in let most = short refl in omega (arith, wide, most, some))

    several : (kind : DeckKind) (words : List ℕ) → 2 ≤ length words →
        (has_one_line kind (operation_as line.operation) ≡ true → width_of (known_words (word_bits kind) words) ≤ 60) → has_one_line kind (operation_as line.operation) ≡ false
    several Rel words some short = none (is_instruction (operation_as line.operation)) words some short
    several Abs words some short = none (is_instruction (operation_as line.operation)) words some short
    several Periph words some short = refl
