-- A number in decimal: the definitions' digits are those of std.
use Rattle.std.{proofs.Common.{◌≡◌, ℕ, ◌/◌, ◌%◌, ◌+◌, ◌<◌, ◌^◌, true, false, [], ◌∷◌, ◌++◌, ap, arith, lt-ltb, le-ltb}, specs.Prelude.decimal, proofs.lemmas.Fmt.{AppendsLastDigit, decimal_from_appends_wide, length-decimal-le}}
use Rattle.definitions.specs.Numerals.{decimal_of, decimal_in}

decimal_in-appends : AppendsLastDigit decimal_in
decimal_in-appends = record {
  one = λ k n few. ap (λ t. elim t [ true ↦ (48 + n) ∷ [] | false ↦ decimal_in k (n / 10) ++ (48 + n % 10) ∷ [] ]) (lt-ltb n 10 few);
  more = λ k n many. ap (λ t. elim t [ true ↦ (48 + n) ∷ [] | false ↦ decimal_in k (n / 10) ++ (48 + n % 10) ∷ [] ]) (le-ltb n 10 many);
}

-- a number of 64 bits
pub decimal-same : (n : ℕ) → n < 2 ^ 64 → decimal_of n ≡ decimal n
decimal-same n small = decimal_from_appends_wide decimal_in decimal_in-appends 20 n (omega (arith, small)) (length-decimal-le 20 n (omega (arith, small)) (omega (arith, small)) (omega arith))
