-- The letters of two sets, and of one letter.
use Rattle.std.{proofs.Common.{◌≡◌, ℕ, zero, suc, ◌<◌, ◌/◌, ◌%◌, ◌^◌, List, [], ◌∷◌, ◌++◌, Bool, true, ◌&&◌, ◌||◌, cond, eqb, filter, refl, sym, ap, ap₂, ◌∙◌, bit_or, arith}, specs.Prelude.codes, proofs.lemmas.Bool.{eqb-true, eq-eqb, or_left, or_right}, proofs.Math.Bool.and-true, proofs.lemmas.List.Folds.list_any-append, proofs.lemmas.Map.Views.any-filter_same, proofs.lemmas.Nat.{or_shr, or_mod, mod_below}, proofs.lemmas.Grind.flat_map-append}
use Rattle.definitions.specs.{Characters.is_among, Letters.{letter_text, texts, in_order}, declared.letter.Letter.Letter}
use Rattle.operations.specs.Joins.LetterBits.{is_flagged, flagged}

-- the first of a list is among it
first_among : (c : ℕ) (cs : List ℕ) → is_among c (c ∷ cs) ≡ true
first_among c cs = or_left (eqb c c) (is_among c cs) (eq-eqb c c refl)

-- tests that agree on a list keep the same
filter_same : (p q : ℕ → Bool) (cs : List ℕ) → ((c : ℕ) → is_among c cs ≡ true → p c ≡ q c) → filter p cs ≡ filter q cs
filter_same p q [] same = refl
filter_same p q (c ∷ cs) same =
    ap₂ (λ (t : Bool) (l : List ℕ). cond t (c ∷ l) l) (same c (first_among c cs))
    (filter_same p q cs (λ d h. same d (ap (λ (t : Bool). eqb c d || t) h ∙ or_right (eqb c d) true refl)))

-- what is among a list is kept as its test says
kept : (p : ℕ → Bool) (cs : List ℕ) (c : ℕ) → is_among c cs ≡ true → is_among c (filter p cs) ≡ p c
kept p cs c there =
    any-filter_same (λ k. eqb k c) p (p c) (λ k h. ap p (eqb-true k c h)) cs ∙ ap (λ (t : Bool). p c && t) there ∙ and-true (p c)

-- tests that keep the same agree on the list
kept_same : (p q : ℕ → Bool) (cs : List ℕ) → filter p cs ≡ filter q cs → (c : ℕ) → is_among c cs ≡ true → p c ≡ q c
kept_same p q cs same c there = sym (kept p cs c there) ∙ ap (is_among c) same ∙ kept q cs c there

-- the bit of either
or_bits : (a b : ℕ) → a < 2 → b < 2 → eqb (bit_or a b) 1 ≡ (eqb a 1 || eqb b 1)
or_bits zero zero small small' = refl
or_bits zero (suc zero) small small' = refl
or_bits (suc zero) zero small small' = refl
or_bits (suc zero) (suc zero) small small' = refl
or_bits a b small small' = absurd (omega arith)

is_flagged-or : (a b c : ℕ) → is_flagged (bit_or a b) c ≡ (is_flagged a c || is_flagged b c)
is_flagged-or a b c =
    let k = c % 32 in
    ap (λ n. eqb (n % 2) 1) (or_shr a b k)
    ∙ ap (λ n. eqb n 1) (or_mod (a / 2 ^ k) (b / 2 ^ k) 1)
    ∙ or_bits (a / 2 ^ k % 2) (b / 2 ^ k % 2) (mod_below (a / 2 ^ k) 2 (omega arith)) (mod_below (b / 2 ^ k) 2 (omega arith))

-- the letters of both sets
pub flagged-or : (a b : ℕ) (letters others : List Letter) → flagged a ≡ in_order letters → flagged b ≡ in_order others →
    flagged (bit_or a b) ≡ in_order (letters ++ others)
flagged-or a b letters others is is' =
    let cs = codes "ACDLORUVZ" in
    filter_same (is_flagged (bit_or a b)) (λ c. is_among c (texts (letters ++ others))) cs (λ c there.
    is_flagged-or a b c
    ∙ ap₂ (λ (s t : Bool). s || t) (kept_same (is_flagged a) (λ d. is_among d (texts letters)) cs is c there) (kept_same (is_flagged b) (λ d. is_among d (texts others)) cs is' c there)
    ∙ sym (list_any-append (λ d. eqb d c) (texts letters) (texts others))
    ∙ ap (is_among c) (sym (flat_map-append letter_text letters others)))
