-- Fields as a list has them: narrow ones stay as they are, and known bits of whole words become their words.
use Rattle.std.{proofs.Common.{◌≡◌, ◌∙◌, ℕ, zero, suc, ◌+◌, ◌*◌, ◌/◌, ◌%◌, ◌^◌, ◌≤◌, ◌<◌, Bool, true, false, ◌&&◌, List, [], ◌∷◌, refl, ap, ap₂, sym, arith, if◌then◌else◌}, specs.Prelude.{nat_lt, nat_eq}, proofs.lemmas.Bool.{lt-ltb, le-ltb, eq-eqb}, proofs.lemmas.Nat.{div-mul-add, mod-mul-add}, proofs.Math.Nat.mod-eq_of_lt}
use Rattle.definitions.specs.{StatementItems.{Item, Content, Known, Linked, known}, Words.cut, declared.letter.Letter.Letter}
use Rattle.statement_coder.specs.Joins.WordItems.{is_several, known_words, words_of, in_words}

-- bits that fill no more than a word are not several words
narrow_test : (word width bits : ℕ) (b : Bool) → nat_lt word width ≡ b → b ≡ false → is_several word width bits ≡ false
narrow_test word width bits b e f = ap (λ t. t && (nat_eq (width % word) 0) && nat_lt bits (2 ^ width)) (e ∙ f)

-- what is not several words stays as it is
words_of-narrow : (word : ℕ) (field : Item) (letters : List Letter) (content : Content) → ((bits : ℕ) → is_several word field.width bits ≡ false) → words_of word field letters content ≡ field ∷ []
words_of-narrow word field [] (Known bits) never = ap (λ t. if t then known_words word (cut word (field.width / word) bits) else field ∷ []) (never bits)
words_of-narrow word field [] (Linked form) never = refl
words_of-narrow word field (letter ∷ letters) content never = refl

-- a field of at most a word
pub in_words-narrow : (word : ℕ) (field : Item) → field.width ≤ word → in_words word field ≡ field ∷ []
in_words-narrow word field narrow =
    words_of-narrow word field field.letters field.content (λ bits. narrow_test word field.width bits (nat_lt word field.width) refl (le-ltb word field.width narrow))

-- bits of two words or more that fit them
several : (word words bits : ℕ) → 0 < word → 1 < words → bits < 2 ^ (words * word) → is_several word (words * word) bits ≡ true
several word words bits some more fits =
    let wide : word < words * word = wider word words some more in
    let none : words * word % word ≡ 0 = ap (λ n. n % word) (let e : words * word ≡ words * word + 0 = omega arith in e) ∙ mod-mul-add words word 0 some in
    ap₂ (λ (s t : Bool). s && t)
    (ap₂ (λ (s t : Bool). s && t) (lt-ltb word (words * word) wide) (eq-eqb (words * word % word) 0 none))
    (lt-ltb bits (2 ^ (words * word)) fits)
  where
    wider : (word words : ℕ) → 0 < word → 1 < words → word < words * word
    wider word (suc (suc words)) some more = omega arith
    wider word (suc zero) some more = absurd (omega arith)
    wider word zero some more = absurd (omega arith)

-- known bits that fit so many words are listed as these words
pub in_words-known : (word words bits : ℕ) → 0 < word → 0 < words → bits < 2 ^ (words * word) →
    in_words word (known (words * word) bits) ≡ known_words word (cut word words bits)
in_words-known word zero bits some none fits = absurd (omega arith)
in_words-known word (suc zero) bits some one fits =
    let width : 1 * word ≡ word = omega arith in
    in_words-narrow word (known (1 * word) bits) (omega arith)
    ∙ ap (λ field. field ∷ []) (ap₂ known width (sym (mod-eq_of_lt (let small : bits < 2 ^ word = rw width at fits in small))))
in_words-known word (suc (suc words)) bits some more fits =
    let count = suc (suc words) in
    let pieces : count * word / word ≡ count = ap (λ n. n / word) (let e : count * word ≡ count * word + 0 = omega arith in e) ∙ div-mul-add count word 0 some in
    ap (λ t. if t then known_words word (cut word (count * word / word) bits) else known (count * word) bits ∷ []) (several word count bits some (omega arith) fits)
    ∙ ap (λ n. known_words word (cut word n bits)) pieces
