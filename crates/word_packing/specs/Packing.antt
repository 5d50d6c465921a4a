-- Words packed into bytes, the most significant bit first, and taken out again (ours). A word of 60 bits has
-- fifteen hexadecimal digits, one of 12 bits three, a byte two: so words and bytes are the same digits, taken
-- a different number at a time. Where the last byte has a digit too many, it is 0.
use Rattle.std.specs.Prelude.{ℕ, zero, suc, ◌+◌, ◌-◌, ◌*◌, ◌/◌, ◌%◌, ◌^◌, ◌<◌, List, [], ◌∷◌, ◌++◌, length, get_or, All}

-- how many hexadecimal digits a byte has
abbrev pub byte_digits : ℕ
byte_digits = 2

-- the digit at a place of items that have so many digits each, the first one the most significant; 0 behind the items
abbrev pub digit_at : ℕ → List ℕ → ℕ → ℕ
digit_at digits items place = get_or items (place / digits) 0 / 2 ^ (4 * (digits - 1 - place % digits)) % 16

-- the number that digits make, the first one the most significant
abbrev pub number_of : (ℕ → ℕ) → ℕ → ℕ
number_of digit zero = 0
number_of digit (suc count) = number_of digit count * 16 + digit count

-- the first items of a row
abbrev pub firsts : (ℕ → ℕ) → ℕ → List ℕ
firsts item zero = []
firsts item (suc count) = firsts item count ++ item count ∷ []

-- the item at a place where the digits of other items are taken `to` at a time
abbrev pub regrouped_at : ℕ → ℕ → List ℕ → ℕ → ℕ
regrouped_at digits to items place = number_of (λ k. digit_at digits items (place * to + k)) to

-- words of so many digits as bytes
abbrev pub packed : ℕ → List ℕ → List ℕ
packed digits words = firsts (regrouped_at digits byte_digits words) ((length words * digits + 1) / 2)

-- so many words of so many digits that bytes hold
abbrev pub unpacked : ℕ → ℕ → List ℕ → List ℕ
unpacked digits count bytes = firsts (regrouped_at byte_digits digits bytes) count

-- whether words have no more digits than so many
abbrev pub Fit : ℕ → List ℕ → Type 0
Fit digits words = All (λ word. word < 2 ^ (4 * digits)) words
