-- Texts of DATA that are numbers alone, in the words of the definitions.
use Rattle.std.specs.{Prelude.{ℕ, ◌≡◌, ◌^◌, Bool, true, ◌==◌, ◌&&◌, ◌||◌, List, [], ◌∷◌, ◌++◌, Option, Some, None, min, nat_le}, List.list_all}
use Rattle.definitions.specs.{Characters.{comma, zero_digit}, Numerals.number_of, declared.number_base.NumberBase.NumberBase, declared.number_base.NumberBase.TheVariants.{Decimal, Octal}}
use Rattle.expr_forms.specs.Joins.Numbers.{radix}

-- the last digit of a base
abbrev pub last_digit : NumberBase → ℕ
last_digit Decimal = 57
last_digit Octal = 55

-- a digit up to the last one
abbrev pub is_digit_to : ℕ → ℕ → Bool
is_digit_to last c = nat_le zero_digit c && nat_le c last

-- a comma, or a digit up to the last one
abbrev pub is_of_numbers : ℕ → ℕ → Bool
is_of_numbers last c = (c == comma) || is_digit_to last c

-- a text from the comma on behind which this stands, if one is left
abbrev pub from_comma : Option (List ℕ) → List ℕ
from_comma None = []
from_comma (Some text) = comma ∷ text

-- a text begins with digits of a base, up to what is left, that make this number, or 2^60 where it is greater
pub record IsNumberTo (base : NumberBase) (text left : List ℕ) (value : ℕ) : Type 0 where
  pub first : ℕ
  pub others : List ℕ
  pub whole : text ≡ (first ∷ others) ++ left
  pub digits : list_all (is_digit_to (last_digit base)) (first ∷ others) ≡ true
  pub known : value ≡ min (number_of (radix base) (first ∷ others)) (2 ^ 60)
