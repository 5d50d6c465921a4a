-- Fields listed word by word are the same fields to whoever links.
use Rattle.std.{proofs.Common.{◌≡◌, ◌∙◌, ℕ, ◌+◌, ◌/◌, ◌%◌, ◌^◌, ◌<◌, Bool, true, false, ◌&&◌, List, [], ◌∷◌, ◌++◌, flat_map, refl, ap, ap₂, sym, arith, if◌then◌else◌}, specs.Prelude.{nat_lt, nat_eq}, proofs.lemmas.Bool.{and_parts, ltb-true}}
use Rattle.definitions.specs.{Kinds.word_bits, Layout.{Layout, Based}, LinkLines.unfit_words, Operands.{Operand, WordsOperand, TextOperand}, StatementItems.{Item, Content, Known, Linked}, Words.{width_of, cut}, declared.deck_kind.DeckKind.DeckKind, declared.letter.Letter.Letter, Laws.Filling.HasFields}
use Rattle.statement_coder.{specs.Joins.WordItems.{is_several, known_words, words_of, in_words, listed_fields}, proofs.JoinLaws.{width-listed, joined-listed, same-words_of}}
use Rattle.deck_objects.{specs.Joins.LineItems.AreBitsOf, proofs.WordFields.unfit-known_words}
use Rattle.deck_assembler.proofs.KnownLaws.{unfit-append, unfit-known}

unfit-cond : (layout : Layout) (based : Based) (from word bits : ℕ) (field : Item) (words : List ℕ) (b : Bool) → field.content ≡ Known bits →
    unfit_words layout based from (if b then known_words word words else field ∷ []) ≡ unfit_words layout based from (field ∷ [])
unfit-cond layout based from word bits field words true e = unfit-known_words layout based word from words ∙ sym (unfit-known layout based from bits field e)
unfit-cond layout based from word bits field words false e = refl

-- a field, by its letters and its content
unfit-words_of : (layout : Layout) (based : Based) (from word : ℕ) (field : Item) (letters : List Letter) (content : Content) → field.content ≡ content →
    unfit_words layout based from (words_of word field letters content) ≡ unfit_words layout based from (field ∷ [])
unfit-words_of layout based from word field [] (Known bits) e = unfit-cond layout based from word bits field (cut word (field.width / word) bits) (is_several word field.width bits) e
unfit-words_of layout based from word field [] (Linked form) e = refl
unfit-words_of layout based from word field (letter ∷ letters) content e = refl

width-in_words : (word : ℕ) (field : Item) → width_of (in_words word field) ≡ field.width
width-in_words word field = let same = same-words_of (λ width form. 0) word field field.letters field.content refl in same.width_is

unfit-in_words : (layout : Layout) (based : Based) (from word : ℕ) (fields : List Item) → unfit_words layout based from (flat_map (in_words word) fields) ≡ unfit_words layout based from fields
unfit-in_words layout based from word [] = refl
unfit-in_words layout based from word (field ∷ fields) =
    let front = in_words word field in
    unfit-append layout based from front (flat_map (in_words word) fields)
    ∙ ap₂ (λ (ws : List ℕ) (n : ℕ). ws ++ unfit_words layout based (from + n) (flat_map (in_words word) fields)) (unfit-words_of layout based from word field field.letters field.content refl) (width-in_words word field)
    ∙ ap (λ ws. unfit_words layout based from (field ∷ []) ++ ws) (unfit-in_words layout based (from + field.width) word fields)
    ∙ sym (unfit-append layout based from (field ∷ []) fields ∙ ap (λ n. unfit_words layout based from (field ∷ []) ++ unfit_words layout based (from + n) fields) (let e : field.width + 0 ≡ field.width = omega arith in e))

-- what has fields has words
has-append : (xs ys : List Item) → HasFields xs → HasFields (xs ++ ys)
has-append [] ys h = absurd h
has-append (x ∷ xs) ys h = tt

has-wide : (xs : List Item) → 0 < width_of xs → HasFields xs
has-wide [] h = absurd (omega (arith, h))
has-wide (x ∷ xs) h = tt

has-cond : (word bits : ℕ) (field : Item) (words : List ℕ) (b : Bool) → is_several word field.width bits ≡ b →
    width_of (if b then known_words word words else field ∷ []) ≡ field.width → HasFields (if b then known_words word words else field ∷ [])
has-cond word bits field words true e w =
    let outer = and_parts (nat_lt word field.width && nat_eq (field.width % word) 0) (nat_lt bits (2 ^ field.width)) e in
    let inner = and_parts (nat_lt word field.width) (nat_eq (field.width % word) 0) outer.0 in
    let wider : word < field.width = ltb-true word field.width inner.0 in
    has-wide (known_words word words) (omega (arith, w, wider))
has-cond word bits field words false e w = tt

has-words_of : (word : ℕ) (field : Item) (letters : List Letter) (content : Content) → width_of (words_of word field letters content) ≡ field.width → HasFields (words_of word field letters content)
has-words_of word field [] (Known bits) w = has-cond word bits field (cut word (field.width / word) bits) (is_several word field.width bits) refl w
has-words_of word field [] (Linked form) w = tt
has-words_of word field (letter ∷ letters) content w = tt

has-in_words : (word : ℕ) (fields : List Item) → HasFields fields → HasFields (flat_map (in_words word) fields)
has-in_words word [] h = absurd h
has-in_words word (field ∷ fields) h =
    has-append (in_words word field) (flat_map (in_words word) fields) (has-words_of word field field.letters field.content (width-in_words word field))

-- a list has the words of fields, or the fields
listed-by : (P : List Item → Type 0) (kind : DeckKind) (operand : Operand) (fields : List Item) → P (flat_map (in_words (word_bits kind)) fields) → P fields → P (listed_fields kind operand fields)
listed-by P kind (WordsOperand data') fields words same = words
listed-by P kind (TextOperand count characters) fields words same = words
listed-by P kind _ fields words same = same

has-listed : (kind : DeckKind) (operand : Operand) (fields : List Item) → HasFields fields → HasFields (listed_fields kind operand fields)
has-listed kind operand fields h = listed-by HasFields kind operand fields (has-in_words (word_bits kind) fields h) h

pub none-listed : (kind : DeckKind) (operand : Operand) (fields : List Item) → fields ≡ [] → listed_fields kind operand fields ≡ []
none-listed kind operand fields e = listed-by (λ l. l ≡ []) kind operand fields (ap (flat_map (in_words (word_bits kind))) e) e

unfit-listed : (layout : Layout) (based : Based) (from : ℕ) (kind : DeckKind) (operand : Operand) (fields : List Item) →
    unfit_words layout based from (listed_fields kind operand fields) ≡ unfit_words layout based from fields
unfit-listed layout based from kind operand fields =
    listed-by (λ l. unfit_words layout based from l ≡ unfit_words layout based from fields) kind operand fields (unfit-in_words layout based from (word_bits kind) fields) refl

-- fields as a list has them
pub bits-listed : (kind : DeckKind) (operand : Operand) (fields : List Item) → AreBitsOf (listed_fields kind operand fields) fields
bits-listed kind operand fields = record {
  some = has-listed kind operand fields;
  none = none-listed kind operand fields;
  width = width-listed kind operand fields;
  bits = λ linking. joined-listed linking kind operand fields;
  unfit = λ layout based from. unfit-listed layout based from kind operand fields;
}
