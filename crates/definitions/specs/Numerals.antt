-- Numbers as digits, and back (ours: octal in listing and image, decimal in card numbers and faults).
use Rattle.std.specs.Prelude.{ℕ, zero, suc, ◌+◌, ◌-◌, ◌*◌, ◌/◌, ◌%◌, List, [], ◌∷◌, ◌++◌, fold, true, false, nat_lt}
use Rattle.definitions.specs.Characters.{zero_digit}

-- the value as so many digits to this base, leading zeros among them
abbrev pub digits_of : ℕ → ℕ → ℕ → List ℕ
digits_of base zero value = []
digits_of base (suc count) value = digits_of base count (value / base) ++ (zero_digit + value % base) ∷ []

-- the number that digits to this base make
abbrev pub number_of : ℕ → List ℕ → ℕ
number_of base digits = fold (λ value digit. value * base + (digit - zero_digit)) 0 digits

-- the value as so many octal digits
abbrev pub octal_of : ℕ → ℕ → List ℕ
octal_of count value = digits_of 8 count value

-- decimal digits without leading zeros, at most so many
abbrev pub decimal_in : ℕ → ℕ → List ℕ
decimal_in zero value = []
decimal_in (suc count) value = elim (nat_lt value 10) [ true ↦ (zero_digit + value) ∷ [] | false ↦ decimal_in count (value / 10) ++ (zero_digit + value % 10) ∷ [] ]

-- a number below 10^20 in decimal
abbrev pub decimal_of : ℕ → List ℕ
decimal_of value = decimal_in 20 value
