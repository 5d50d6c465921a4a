-- The digits of a code, one character after the other.
use Rattle.std.proofs.{Common.{◌≡◌, ℕ, ◌+◌, ◌*◌, ◌^◌, ◌<◌, ◌≤◌, Bool, true, false, List, [], ◌∷◌, codes, refl, ap, arith}, Math.Nat.pow-le-pow_right}
use Rattle.definitions.specs.{Characters.is_among, Matching.{RegisterDigits, digit_in, code_digits}}
use Rattle.cpu_opcodes.specs.Joins.CodeTexts.{shortened}

-- the number so far leaves room
pub bound-room : (number i : ℕ) → number + 37 ≤ 37 * 8 ^ i → i ≤ 9 → number * 8 + 255 < 2 ^ 64
bound-room number i bound few =
    let some : 0 < 8 = omega arith in
    let most : 8 ^ i ≤ 8 ^ 9 = pow-le-pow_right some few in
    omega arith

-- K and n written once give the same digits
shortened_one : (ijk : RegisterDigits) (c : ℕ) (cs : List ℕ) (b : Bool) → is_among c (codes "Kn") ≡ b → code_digits ijk (shortened cs) ≡ code_digits ijk cs →
    code_digits ijk (shortened (c ∷ cs)) ≡ code_digits ijk (c ∷ cs)
shortened_one ijk c cs true field rest = rw field (rw field refl)
shortened_one ijk c cs false digit rest = rw digit (rw digit (ap (λ l. digit_in ijk c ∷ l) rest))

pub code_digits-shortened : (ijk : RegisterDigits) (text : List ℕ) → code_digits ijk (shortened text) ≡ code_digits ijk text
code_digits-shortened ijk [] = refl
code_digits-shortened ijk (c ∷ cs) = shortened_one ijk c cs (is_among c (codes "Kn")) refl (code_digits-shortened ijk cs)
