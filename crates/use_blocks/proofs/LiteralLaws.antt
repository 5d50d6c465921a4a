-- Where a word stands in the set of literals.
use Rattle.std.{proofs.Common.{ℕ, suc, ◌≡◌, ◌+◌, ◌≤◌, Bool, true, false, cond, List, [], ◌∷◌, length, position, nat_lt, Some, None, refl, sym, ◌∙◌, ap, arith, inl, inr}, specs.Prelude.{◌==◌, nat_eq, if◌then◌else◌}, specs.List.position_or_len, proofs.lemmas.Bool.{lt-ltb, eq-eqb, ne_eqb}, proofs.lemmas.Bool.Decides.{eqb_tells, leb_tells}, proofs.lemmas.List.Recursion.is_position_or_len}
use Rattle.definitions.specs.Literals.{offset_of}

-- which of two numbers stands first makes no difference
swapped : (a b : ℕ) → nat_eq a b ≡ (b == a)
swapped a b = elim (eqb_tells b a) [
  | inl h ↦ eq-eqb a b (sym h.1) ∙ sym h.0
  | inr h ↦ ne_eqb a b (λ e. h.1 (sym e)) ∙ sym h.0
]

-- the offset is the first place of the word
offset-first : (word : ℕ) (words : List ℕ) → offset_of word words ≡ position_or_len (nat_eq word) words
offset-first word words = is_position_or_len (offset_of word) (nat_eq word) refl (λ w ws. ap (λ (b : Bool). if b then 0 else 1 + offset_of word ws) (sym (swapped word w))) words

offset-within : (word : ℕ) (words : List ℕ) → offset_of word words ≤ length words
offset-within word [] = omega arith
offset-within word (w ∷ words) =
    let rest = offset-within word words in
    elim (w == word) as (λ b. (if b then 0 else 1 + offset_of word words) ≤ suc (length words)) [ true ↦ omega arith | false ↦ omega (arith, rest) ]

-- the place of a word that is there
pub offset-Some : (word k : ℕ) (words : List ℕ) → position (nat_eq word) words ≡ Some k → k ≡ offset_of word words
offset-Some word k words e = by (nat_lt (position_or_len (nat_eq word) words) (length words)) e ∙ sym (offset-first word words)
  where
    by : (b : Bool) → cond b (Some (position_or_len (nat_eq word) words)) None ≡ Some k → k ≡ position_or_len (nat_eq word) words
    by true h = cc
    by false h = cc

-- a word that is not there
pub offset-None : (word : ℕ) (words : List ℕ) → position (nat_eq word) words ≡ None → length words ≡ offset_of word words
offset-None word words e =
    let place = position_or_len (nat_eq word) words in
    let none : cond (nat_lt place (length words)) (Some place) None ≡ None = e in
    let first = offset-first word words in
    let within = offset-within word words in
    elim (leb_tells (length words) place) [
      | inl k ↦ let behind : length words ≤ place = k.1 in omega (arith, first, within, behind)
      | inr k ↦ absurd (let some : Some place ≡ None = rw (lt-ltb place (length words) k.1) at none in cc)
    ]
