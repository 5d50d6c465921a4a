-- The last octal digits of a number.
use Rattle.std.proofs.{Common.{◌≡◌, ℕ, zero, suc, ◌+◌, ◌*◌, ◌/◌, ◌%◌, ◌^◌, ◌<◌, List, [], ◌∷◌, ◌++◌, refl, ap, ap₂, ◌∙◌, arith, lit<}, Math.Arith.mod-mul, lemmas.Nat.{mod-mul-add, div-mul-add}}
use Rattle.definitions.specs.Numerals.{digits_of}

some_power : (count : ℕ) → 0 < 8 ^ count
some_power zero = lit< tt
some_power (suc count) = let some = some_power count in omega (arith, some)

-- so many digits of a number are those of what is left of it behind so many digits
pub octal-low : (count value : ℕ) → digits_of 8 count (value % 8 ^ count) ≡ digits_of 8 count value
octal-low zero value = refl
octal-low (suc count) value =
    let high = value / 8 % 8 ^ count in
    let low = value % 8 in
    let small : low < 8 = omega arith in
    let power : 8 ^ suc count ≡ 8 ^ count * 8 = omega arith in
    let split : value % 8 ^ suc count ≡ high * 8 + low = ap (λ (n : ℕ). value % n) power ∙ mod-mul value {m = 8 ^ count} {c = 8} (some_power count) (lit< tt) in
    ap₂ (λ (a b : ℕ). digits_of 8 count a ++ (48 + b) ∷ [])
    (ap (λ (n : ℕ). n / 8) split ∙ div-mul-add high 8 low small)
    (ap (λ (n : ℕ). n % 8) split ∙ mod-mul-add high 8 low small)
    ∙ ap (λ (l : List ℕ). l ++ (48 + low) ∷ []) (octal-low count (value / 8))
