-- A name's number gives its characters back.
use Rattle.std.{proofs.Common.{◌≡◌, ℕ, ◌-◌, ◌<◌, ◌≤◌, ◌==◌, nat_lt, nat_le, Bool, true, false, not, ◌&&◌, true≢false, suc, zero, List, [], ◌∷◌, ◌++◌, length, get_or, replicate, refl, ap, sym, ◌∙◌, arith, lit<, if◌then◌else◌}, proofs.lemmas.Bool.Decides.nat_tests, proofs.lemmas.List.{length-append, length-replicate}, proofs.lemmas.Nat.be_bytes_8, specs.Int.{w64, from_be_bytes, to_be_bytes}, specs.List.list_all}
use Rattle.deck_assembler.specs.Joins.SymbolKeys.{is_name, padded}

and_first : (x y : Bool) → (x && y) ≡ true → x ≡ true
and_first true y h = refl
and_first false y h = h

and_rest : (x y : Bool) → (x && y) ≡ true → y ≡ true
and_rest true y h = h
and_rest false y h = absurd (true≢false (sym h))

-- the characters before the first blank
abbrev before_blank : List ℕ → List ℕ
before_blank [] = []
before_blank (c ∷ rest) = if not (c == 32) then c ∷ before_blank rest else []

unpadded : (text : List ℕ) (blanks : ℕ) → list_all (λ c. not (c == 32)) text ≡ true → before_blank (text ++ replicate blanks 32) ≡ text
unpadded [] zero h = refl
unpadded [] (suc blanks) h = refl
unpadded (c ∷ text) blanks h =
    ap (λ b. if b then c ∷ before_blank (text ++ replicate blanks 32) else []) (and_first (not (c == 32)) (list_all (λ d. not (d == 32)) text) h)
    ∙ ap (λ l. c ∷ l) (unpadded text blanks (and_rest (not (c == 32)) (list_all (λ d. not (d == 32)) text) h))

le-from : (n : ℕ) → nat_le n 8 ≡ true → n ≤ 8
le-from n e = grind (arith, nat_tests)

short : (text : List ℕ) → is_name text ≡ true → length text ≤ 8
short text h = le-from (length text) (and_rest (nat_lt 0 (length text)) (nat_le (length text) 8) (and_first (nat_lt 0 (length text) && nat_le (length text) 8) (list_all (λ c. not (c == 32)) text) h))

spelled : (text : List ℕ) → is_name text ≡ true → before_blank (padded text) ≡ text
spelled text h = unpadded text (8 - length text) (and_rest (nat_lt 0 (length text) && nat_le (length text) 8) (list_all (λ c. not (c == 32)) text) h)

bytes_of : (text : List ℕ) (blanks : ℕ) → ((i : ℕ) → get_or text i 0 < 256) → (i : ℕ) → get_or (text ++ replicate blanks 32) i 0 < 256
bytes_of [] zero h i = omega arith
bytes_of [] (suc blanks) h zero = lit< tt
bytes_of [] (suc blanks) h (suc i) = bytes_of [] blanks h i
bytes_of (c ∷ text) blanks h zero = h 0
bytes_of (c ∷ text) blanks h (suc i) = bytes_of text blanks (λ j. h (suc j)) i

given_back : (text : List ℕ) → ((i : ℕ) → get_or text i 0 < 256) → is_name text ≡ true → to_be_bytes w64 (from_be_bytes w64 (padded text)) ≡ padded text
given_back text bytes h =
    let few = short text h in
    let all : length (padded text) ≡ 8 = omega (arith, length-append text (replicate {A = ℕ} (8 - length text) 32), length-replicate {A = ℕ} (8 - length text) 32) in
    be_bytes_8 (padded text) _ all (bytes_of text (8 - length text) bytes) refl

-- two texts with one number are one
pub same-name : (a b : List ℕ) → ((i : ℕ) → get_or a i 0 < 256) → ((i : ℕ) → get_or b i 0 < 256) → is_name a ≡ true → is_name b ≡ true → from_be_bytes w64 (padded a) ≡ from_be_bytes w64 (padded b) → a ≡ b
same-name a b bytes_a bytes_b name_a name_b e =
    sym (spelled a name_a)
    ∙ (ap before_blank (sym (given_back a bytes_a name_a) ∙ (ap (to_be_bytes w64) e ∙ given_back b bytes_b name_b))
    ∙ spelled b name_b)
