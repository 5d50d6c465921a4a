-- Fields listed word by word have the width of the fields, and join to the same bits.
use Rattle.std.{proofs.Common.{◌≡◌, ◌∙◌, ℕ, zero, suc, ◌+◌, ◌*◌, ◌/◌, ◌%◌, ◌^◌, ◌<◌, Bool, true, false, ◌&&◌, List, [], ◌∷◌, ◌++◌, length, flat_map, refl, ap, ap₂, sym, arith, if◌then◌else◌}, specs.Prelude.{nat_lt, nat_eq}, proofs.lemmas.Bool.{and_parts, ltb-true, eqb-true}, proofs.lemmas.List.map-append, proofs.lemmas.Nat.{pow-add, shr_below, shr_split, div-add-mod'}}
use Rattle.definitions.specs.{Kinds.word_bits, Operands.{Operand, WordsOperand, TextOperand}, StatementItems.{Item, Content, Known, Linked, known}, Words.{Linking, content_bits, width_of, joined, cut}, declared.deck_kind.DeckKind.DeckKind, declared.letter.Letter.Letter}
use Rattle.definitions.specs.Operands as operands
use Rattle.statement_coder.{specs.Joins.WordItems.{is_several, known_words, words_of, in_words, listed_fields}, proofs.ListLaws.length-cut}

pub width-append : (xs ys : List Item) → width_of (xs ++ ys) ≡ width_of xs + width_of ys
width-append [] ys = omega arith
width-append (x ∷ xs) ys = let rest = width-append xs ys in omega arith

-- fields in front stand above those behind them
moved-up : (a w v j k : ℕ) → a * 2 ^ (w + v) + (j * 2 ^ v + k) ≡ (a * 2 ^ w + j) * 2 ^ v + k
moved-up a w v j k =
    ap (λ n. a * n + (j * 2 ^ v + k)) (pow-add 2 w v) ∙ omega arith

pub joined-append : (linking : Linking) (xs ys : List Item) → joined linking (xs ++ ys) ≡ joined linking xs * 2 ^ width_of ys + joined linking ys
joined-append linking [] ys = omega arith
joined-append linking (x ∷ xs) ys =
    let bits = content_bits linking x.width x.content in
    ap₂ (λ w j. bits * 2 ^ w + j) (width-append xs ys) (joined-append linking xs ys)
    ∙ moved-up bits (width_of xs) (width_of ys) (joined linking xs) (joined linking ys)

width-known_words : (word : ℕ) (words : List ℕ) → width_of (known_words word words) ≡ length words * word
width-known_words word [] = omega arith
width-known_words word (n ∷ words) = let rest = width-known_words word words in omega arith

-- the words of a cut join to the number
joined-cut : (linking : Linking) (word count n : ℕ) → n < 2 ^ (count * word) → joined linking (known_words word (cut word count n)) ≡ n
joined-cut linking word zero n fits =
    let one : 2 ^ (0 * word) ≡ 1 = ap (λ k. 2 ^ k) (let e : 0 * word ≡ 0 = omega arith in e) in
    omega arith
joined-cut linking word (suc count) n fits =
    let high = n / 2 ^ word in
    let low = n % 2 ^ word in
    let power : suc count * word ≡ count * word + word = omega arith in
    let below : high < 2 ^ (count * word) = shr_below n (count * word) word (let f : n < 2 ^ (count * word + word) = rw power at fits in f) in
    let last : List Item = known word low ∷ [] in
    ap (joined linking) (map-append (known word) (cut word count high) (low ∷ []))
    ∙ joined-append linking (known_words word (cut word count high)) last
    ∙ ap₂ (λ a w. a * 2 ^ w + (low * 2 ^ 0 + 0)) (joined-cut linking word count high below) (let e : word + 0 ≡ word = omega arith in e)
    ∙ (let e : high * 2 ^ word + (low * 1 + 0) ≡ high * 2 ^ word + low = omega arith in e)
    ∙ shr_split n word

-- bits of several words: their words have the width of all, and join to the bits
pub record AreSame (linking : Linking) (fields : List Item) (width bits : ℕ) : Type 0 where
  pub width_is : width_of fields ≡ width
  pub bits_are : joined linking fields ≡ bits

several-same : (linking : Linking) (word width bits : ℕ) → is_several word width bits ≡ true → AreSame linking (known_words word (cut word (width / word) bits)) width bits
several-same linking word width bits e =
    let outer = and_parts (nat_lt word width && nat_eq (width % word) 0) (nat_lt bits (2 ^ width)) e in
    let inner = and_parts (nat_lt word width) (nat_eq (width % word) 0) outer.0 in
    let none : width % word ≡ 0 = eqb-true (width % word) 0 inner.1 in
    let split : width / word * word + width % word ≡ width = div-add-mod' width word in
    let whole : width / word * word ≡ width = omega arith in
    let fits : bits < 2 ^ width = ltb-true bits (2 ^ width) outer.1 in
    record {
      width_is = width-known_words word (cut word (width / word) bits) ∙ ap (λ n. n * word) (length-cut word (width / word) bits) ∙ whole;
      bits_are = joined-cut linking word (width / word) bits (let f : bits < 2 ^ (width / word * word) = rw whole fits in f);
    }

-- a field as it is
one-same : (linking : Linking) (field : Item) → AreSame linking (field ∷ []) field.width (content_bits linking field.width field.content)
one-same linking field = record { width_is = omega arith; bits_are = omega arith }

same-by : (linking : Linking) (field : Item) (word bits : ℕ) (b : Bool) → field.content ≡ Known bits → is_several word field.width bits ≡ b →
    AreSame linking (if b then known_words word (cut word (field.width / word) bits) else field ∷ []) field.width (content_bits linking field.width field.content)
same-by linking field word bits true c e =
    let same = several-same linking word field.width bits e in
    record { width_is = same.width_is; bits_are = same.bits_are ∙ sym (ap (content_bits linking field.width) c) }
same-by linking field word bits false c e = one-same linking field

pub same-words_of : (linking : Linking) (word : ℕ) (field : Item) (letters : List Letter) (content : Content) → field.content ≡ content →
    AreSame linking (words_of word field letters content) field.width (content_bits linking field.width field.content)
same-words_of linking word field [] (Known bits) c = same-by linking field word bits (is_several word field.width bits) c refl
same-words_of linking word field [] (Linked form) c = one-same linking field
same-words_of linking word field (letter ∷ letters) content c = one-same linking field

-- all fields, listed word by word
same-in_words : (linking : Linking) (word : ℕ) (fields : List Item) → AreSame linking (flat_map (in_words word) fields) (width_of fields) (joined linking fields)
same-in_words linking word [] = record { width_is = refl; bits_are = refl }
same-in_words linking word (field ∷ fields) =
    let front = in_words word field in
    let rest = flat_map (in_words word) fields in
    let here = same-words_of linking word field field.letters field.content refl in
    let behind = same-in_words linking word fields in
    record {
      width_is = width-append front rest ∙ ap₂ (λ a b. a + b) here.width_is behind.width_is;
      bits_are = joined-append linking front rest
          ∙ ap₂ (λ a b. a * 2 ^ b + joined linking rest) here.bits_are behind.width_is
          ∙ ap (λ j. content_bits linking field.width field.content * 2 ^ width_of fields + j) behind.bits_are;
    }

-- the fields of an operand as a list has them
same-listed : (linking : Linking) (kind : DeckKind) (operand : Operand) (fields : List Item) → AreSame linking (listed_fields kind operand fields) (width_of fields) (joined linking fields)
same-listed linking kind (WordsOperand data') fields = same-in_words linking (word_bits kind) fields
same-listed linking kind (TextOperand count characters) fields = same-in_words linking (word_bits kind) fields
same-listed linking kind operands.Unread fields = record { width_is = refl; bits_are = refl }
same-listed linking kind operands.BadOperand fields = record { width_is = refl; bits_are = refl }
same-listed linking kind (operands.CentralOperand instruction) fields = record { width_is = refl; bits_are = refl }
same-listed linking kind (operands.PeripheralOperand row values) fields = record { width_is = refl; bits_are = refl }
same-listed linking kind (operands.BitsOperand bits) fields = record { width_is = refl; bits_are = refl }
same-listed linking kind (operands.ValueOperand e) fields = record { width_is = refl; bits_are = refl }
same-listed linking kind (operands.NamesOperand names) fields = record { width_is = refl; bits_are = refl }
same-listed linking kind (operands.UseName name) fields = record { width_is = refl; bits_are = refl }
same-listed linking kind operands.UseBefore fields = record { width_is = refl; bits_are = refl }
same-listed linking kind operands.UseRefused fields = record { width_is = refl; bits_are = refl }

pub width-listed : (kind : DeckKind) (operand : Operand) (fields : List Item) → width_of (listed_fields kind operand fields) ≡ width_of fields
width-listed kind operand fields = let same = same-listed (λ width form. 0) kind operand fields in same.width_is

pub joined-listed : (linking : Linking) (kind : DeckKind) (operand : Operand) (fields : List Item) → joined linking (listed_fields kind operand fields) ≡ joined linking fields
joined-listed linking kind operand fields = let same = same-listed linking kind operand fields in same.bits_are
