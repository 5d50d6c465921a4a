-- A list that is put, one item after the other, in front of another.
use Rattle.std.{proofs.Common.{◌≡◌, ℕ, zero, suc, ◌+◌, List, [], ◌∷◌, ◌++◌, length, drop, refl, sym, ap, ap₂, ◌∙◌, append_assoc, arith}, specs.Prelude.reverse, proofs.Math.Seq.drop-append_seam, proofs.lemmas.List.{reverse-append, reverse-reverse, length-reverse}}

abbrev pub onto : {A : Type 0} → List A → List A → List A
onto [] others = others
onto (item ∷ items) others = onto items (item ∷ others)

pub append-none : {A : Type 0} (items : List A) → items ++ [] ≡ items
append-none [] = refl
append-none (item ∷ items) = ap (λ rest. item ∷ rest) (append-none items)

pub onto-reverse : {A : Type 0} (items others : List A) → onto items others ≡ reverse items ++ others
onto-reverse [] others = refl
onto-reverse (item ∷ items) others =
    onto-reverse items (item ∷ others)
    ∙ sym (append_assoc (reverse items) (item ∷ []) others)
    ∙ ap (λ rest. rest ++ others) (sym (reverse-append (item ∷ []) items))

-- put onto nothing, last item first
pub onto-back : {A : Type 0} (items : List A) → onto (reverse items) [] ≡ items
onto-back items = onto-reverse (reverse items) [] ∙ append-none (reverse (reverse items)) ∙ reverse-reverse items

-- the other list is behind them
pub drop-onto : {A : Type 0} (items others : List A) → drop (length items) (onto items others) ≡ others
drop-onto items others = ap₂ drop (sym (length-reverse items)) (onto-reverse items others) ∙ drop-append_seam (reverse items) others

pub drop-none : {A : Type 0} (k : ℕ) → drop {A = A} k [] ≡ []
drop-none zero = refl
drop-none (suc k) = refl

-- one drop behind the other
pub drop-more : {A : Type 0} (n m : ℕ) (items : List A) → drop n (drop m items) ≡ drop (m + n) items
drop-more n zero items = ap (λ k. drop k items) (omega arith)
drop-more n (suc m) [] = drop-none n ∙ sym (drop-none (suc m + n))
drop-more n (suc m) (item ∷ items) = drop-more n m items ∙ ap (λ k. drop k (item ∷ items)) (let e : suc (m + n) ≡ suc m + n = omega arith in e)

-- a list turned round in front of another, with its first item at the end of that
pub reverse-onto : {A : Type 0} (item : A) (items others : List A) → reverse items ++ item ∷ others ≡ reverse (item ∷ items) ++ others
reverse-onto item items others = sym (append_assoc (reverse items) (item ∷ []) others) ∙ ap (λ l. l ++ others) (sym (reverse-append (item ∷ []) items))

-- the first item of two lists, and the others
pub first-of : {A : Type 0} (a b : A) (x y : List A) → a ∷ x ≡ b ∷ y → a ≡ b
first-of a b x y e = cc

pub rest-of : {A : Type 0} (a b : A) (x y : List A) → a ∷ x ≡ b ∷ y → x ≡ y
rest-of a b x y e = cc
