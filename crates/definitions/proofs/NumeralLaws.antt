-- Octal digits read back as their number.
use Rattle.std.proofs.{Common.{◌≡◌, ℕ, zero, suc, ◌+◌, ◌-◌, ◌*◌, ◌/◌, ◌%◌, ◌^◌, ◌<◌, List, [], ◌∷◌, ◌++◌, ap, ◌∙◌, arith}, Math.Nat.pow-succ', lemmas.List.Sums.fold-append}
use Rattle.definitions.specs.Numerals.{octal_of, number_of}

-- one digit more is eight times the number, and the digit
number_of-push : (digits : List ℕ) (digit : ℕ) → number_of 8 (digits ++ (48 + digit) ∷ []) ≡ number_of 8 digits * 8 + digit
number_of-push digits digit =
    fold-append (λ value d. value * 8 + (d - 48)) 0 digits ((48 + digit) ∷ [])
    ∙ (let e : 48 + digit - 48 ≡ digit = omega arith in ap (λ d. number_of 8 digits * 8 + d) e)

-- a number below a power has one digit less behind its last
below_power : (count value : ℕ) → value < 8 ^ suc count → value / 8 < 8 ^ count
below_power count value below = let more : value < 8 * 8 ^ count = rw pow-succ' at below in omega arith

-- octal text reads back
pub number_of-octal_of : (count value : ℕ) → value < 8 ^ count → number_of 8 (octal_of count value) ≡ value
number_of-octal_of zero value below = omega arith
number_of-octal_of (suc count) value below =
    let front = number_of-octal_of count (value / 8) (below_power count value below) in
    number_of-push (octal_of count (value / 8)) (value % 8) ∙ (let whole : value / 8 * 8 + value % 8 ≡ value = omega arith in ap (λ n. n * 8 + value % 8) front ∙ whole)
