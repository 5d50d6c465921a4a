-- The digits of a lawful code are octal, and their number is small.
use Rattle.std.{proofs.Common.{◌≡◌, ℕ, ◌+◌, ◌-◌, ◌*◌, ◌^◌, ◌<◌, ◌≤◌, Bool, true, false, cond, ◌&&◌, List, [], ◌∷◌, length, codes, eqb, refl, ap, ap₂, arith}, specs.Prelude.nat_lt, proofs.lemmas.Bool.{and_parts, ltb-true, lt-ltb}, proofs.Math.Nat.{mul-le-mul_right, pow-le-pow_right, pow-suc}}
use Rattle.definitions.specs.{Characters.is_among, Matching.{RegisterDigits, octal_number, code_digits, digit_in}}
use Rattle.cpu_opcodes.specs.Joins.LawfulCodes.{sevens, are_octal}

-- so many octal digits are a number below this power
octal_number-bound : (digits : List ℕ) (value : ℕ) → are_octal digits ≡ true → octal_number value digits + 1 ≤ (value + 1) * 8 ^ length digits
octal_number-bound [] value octal = omega arith
octal_number-bound (d ∷ digits) value octal =
    let parts = and_parts (nat_lt d 8) (are_octal digits) octal in
    let small = ltb-true d 8 parts.0 in
    let rest = octal_number-bound digits (value * 8 + d) parts.1 in
    let more : (value * 8 + d + 1) * 8 ^ length digits ≤ (value * 8 + 8) * 8 ^ length digits = mul-le-mul_right (8 ^ length digits) (omega arith) in
    let same : octal_number value (d ∷ digits) ≡ octal_number (value * 8 + d) digits = refl in
    let power : (value + 1) * 8 ^ length (d ∷ digits) ≡ (value + 1) * (8 ^ length digits * 8) = ap (λ (n : ℕ). (value + 1) * n) (pow-suc 8 (length digits)) in
    omega (arith, rest, more, same, power)

-- digits of registers that are octal
pub record AreOctal (ijk : RegisterDigits) : Type 0 where
  pub i : ijk.i < 8
  pub j : ijk.j < 8
  pub k : ijk.k < 8

digit_by : (c i j k : ℕ) (a b d : Bool) → i < 8 → j < 8 → k < 8 → cond a 7 (cond b 7 (cond d 7 (c - 48))) < 8 → cond a i (cond b j (cond d k (c - 48))) < 8
digit_by c i j k true b d first second third small = first
digit_by c i j k false true d first second third small = second
digit_by c i j k false false true first second third small = third
digit_by c i j k false false false first second third small = small

-- a digit of a code is octal where it is with the greatest registers
digit_in-octal : (ijk : RegisterDigits) (c : ℕ) → AreOctal ijk → digit_in sevens c < 8 → digit_in ijk c < 8
digit_in-octal ijk c octal small = digit_by c ijk.i ijk.j ijk.k (eqb c 105) (eqb c 106) (eqb c 107) octal.i octal.j octal.k small

digits_by : (ijk : RegisterDigits) (c : ℕ) (cs : List ℕ) (field : Bool) → AreOctal ijk → are_octal (cond field [] (digit_in sevens c ∷ code_digits sevens cs)) ≡ true →
    (are_octal (code_digits sevens cs) ≡ true → are_octal (code_digits ijk cs) ≡ true) → are_octal (cond field [] (digit_in ijk c ∷ code_digits ijk cs)) ≡ true
digits_by ijk c cs true octal lawful rest = refl
digits_by ijk c cs false octal lawful rest =
    let parts = and_parts (nat_lt (digit_in sevens c) 8) (are_octal (code_digits sevens cs)) lawful in
    let small = digit_in-octal ijk c octal (ltb-true (digit_in sevens c) 8 parts.0) in
    ap₂ (λ (s t : Bool). s && t) (lt-ltb (digit_in ijk c) 8 small) (rest parts.1)

-- and so are they all
code_digits-octal : (ijk : RegisterDigits) (text : List ℕ) → AreOctal ijk → are_octal (code_digits sevens text) ≡ true → are_octal (code_digits ijk text) ≡ true
code_digits-octal ijk [] octal lawful = refl
code_digits-octal ijk (c ∷ cs) octal lawful = digits_by ijk c cs (is_among c (codes "Kn")) octal lawful (λ rest. code_digits-octal ijk cs octal rest)

-- the number of a lawful code's digits
pub number-room : (ijk : RegisterDigits) (text : List ℕ) → AreOctal ijk → are_octal (code_digits sevens text) ≡ true → length (code_digits ijk text) ≤ 10 →
    octal_number 0 (code_digits ijk text) < 2 ^ 32
number-room ijk text octal lawful few =
    let bound = octal_number-bound (code_digits ijk text) 0 (code_digits-octal ijk text octal lawful) in
    let some : 0 < 8 = omega arith in
    let most : 8 ^ length (code_digits ijk text) ≤ 8 ^ 10 = pow-le-pow_right some few in
    omega (arith, bound, most)
