-- The sections of common blocks.
use Rattle.std.{proofs.Common.{◌≡◌, ℕ, zero, suc, ◌+◌, ◌-◌, ◌<◌, List, [], ◌∷◌, ◌++◌, Bool, false, eqb, length, refl, sym, ap, ap₂, ◌∙◌, append_assoc, arith}, specs.Prelude.{codes, flat_map, if◌then◌else◌}}
use Rattle.definitions.specs.{Characters.line_feed, Numerals.octal_of, Layout.{Layout, Common, addressed}, Image.{word_line, common_words, common_section, common_section_by}, Words.StoredWord, declared.deck_kind.DeckKind.TheVariants.Rel}
use Rattle.parcel_packer.specs.Joins.Filling.{words_from}
use Rattle.deck_linker.{specs.Joins.Sections.{common_head, common_word, common_words_text}, proofs.TextLaws.four-ended}

-- a word of a span is written
pub word-written : (before after all : List ℕ) (base offset count value address next left : ℕ) → address ≡ base + offset → next ≡ offset + 1 → left ≡ count - 1 → 0 < count →
    before ++ common_words_text base (words_from offset count value) ≡ all → after ≡ before ++ word_line Rel (record { address = address; value = value }) →
    after ++ common_words_text base (words_from next left value) ≡ all
unfolding common_word
word-written before after all base offset zero value address next left e n l some h a = absurd (omega arith)
word-written before after all base offset (suc count) value address next left e n l some h a =
    let one_less : left ≡ count = omega arith in
    let rest = common_words_text base (words_from (offset + 1) count value) in
    ap₂ (λ m k. after ++ common_words_text base (words_from m k value)) n one_less
    ∙ ap (λ t. t ++ rest) (a ∙ ap (λ (n : ℕ). before ++ word_line Rel (record { address = n; value = value })) e)
    ∙ append_assoc before (word_line Rel (record { address = base + offset; value = value })) rest
    ∙ h

-- the first line is written
pub head-written : (t u v w x name text : List ℕ) (base number : ℕ) → u ≡ t ++ codes "COMMON " → v ≡ u ++ text → w ≡ v ++ codes " " → x ≡ w ++ octal_of 6 number → text ≡ name → number ≡ base →
    x ++ line_feed ∷ [] ≡ t ++ common_head name base
unfolding common_head
head-written t u v w x name text base number h k l m named placed =
    four-ended t u v w x (codes "COMMON ") text (codes " ") (octal_of 6 number) (line_feed ∷ []) h k l m
    ∙ ap₂ (λ (a : List ℕ) (n : ℕ). t ++ ((codes "COMMON " ++ (a ++ (codes " " ++ octal_of 6 n))) ++ line_feed ∷ [])) named placed

words-text : (base : ℕ) (words : List StoredWord) → flat_map (word_line Rel) (addressed base words) ≡ common_words_text base words
unfolding common_word
words-text base [] = refl
words-text base (word ∷ words) = ap (λ (t : List ℕ). word_line Rel (record { address = base + word.offset; value = word.value }) ++ t) (words-text base words)

-- a section with words
section-some : (common : Common) (words : List StoredWord) → (words ≡ [] → ⊥) → common_section common words ≡ common_head common.name common.base ++ common_words_text common.base words
unfolding common_head
section-some common [] h = absurd (h refl)
section-some common (word ∷ words) h = ap (λ (t : List ℕ). common_head common.name common.base ++ t) (words-text common.base (word ∷ words))

section-by : (layout : Layout) (common : Common) (past : Bool) (words : List StoredWord) → past ≡ false → words ≡ common_words layout common.name layout.decks →
    common_section common words ≡ (if past then [] else common_section common (common_words layout common.name layout.decks))
section-by layout common past words e f = ap (common_section common) f ∙ sym (ap (λ (b : Bool). if b then [] else common_section common (common_words layout common.name layout.decks)) e)

-- words that are counted are there
pub some_words : {X : Type 0} (words slice : List X) (count : ℕ) → false ≡ eqb count 0 → length slice ≡ count → slice ≡ words → words ≡ [] → ⊥
some_words words slice count some counted same none =
    let zero : count ≡ 0 = sym counted ∙ ap length same ∙ ap length none in
    grind (arith, zero, some)

-- the section of a common block is written
pub section-written : (layout : Layout) (common : Common) (old headed name : List ℕ) (base place : ℕ) (words told : List StoredWord) (past : Bool) → past ≡ false → past ≡ common.is_past →
    words ≡ common_words layout common.name layout.decks → (words ≡ [] → ⊥) → told ≡ words → headed ≡ old ++ common_head name base → name ≡ common.name → base ≡ common.base → place ≡ common.base →
    headed ++ common_words_text place told ≡ old ++ common_section_by layout common
section-written layout common old headed name base place words told past kept is all some same h named based placed =
    ap₂ (λ (a b : List ℕ). a ++ b) (h ∙ ap₂ (λ (n : List ℕ) (k : ℕ). old ++ common_head n k) named based) (ap₂ common_words_text placed same)
    ∙ append_assoc old (common_head common.name common.base) (common_words_text common.base words)
    ∙ ap (λ (t : List ℕ). old ++ t) (sym (section-some common words some) ∙ section-by layout common common.is_past words (sym is ∙ kept) all)

-- what was put to a new sheet that grows, in two steps
pub two-put : (start middle after first second : List ℕ) → start ≡ 0 ∷ [] → middle ≡ start ++ first → after ≡ middle ++ second → after ≡ 0 ∷ (first ++ second)
two-put start middle after first second new one two = two ∙ ap (λ (l : List ℕ). l ++ second) (one ∙ ap (λ (l : List ℕ). l ++ first) new)
