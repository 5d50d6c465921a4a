-- Numbers of the code, in the words of the definitions.
use Rattle.std.specs.{Prelude.{ℕ, ◌≡◌, ◌≤◌, List, length}, List.prefix_len}
use Rattle.definitions.specs.{Characters.is_digit, Symbols.{Number, Value, TooGreat}, declared.number_base.NumberBase.NumberBase, declared.number_base.NumberBase.TheVariants.{Decimal, Octal}}
use Rattle.expr_forms.specs.declared.numbers.Number as code
use Rattle.expr_forms.specs.declared.numbers.Number.TheVariants as number

-- the number
abbrev pub number_as : code.Number → Number
number_as (number.Value size) = Value size.value
number_as number.TooGreat = TooGreat

-- ten or eight
abbrev pub radix : NumberBase → ℕ
radix Decimal = 10
radix Octal = 8

-- a text is digits and nothing else
pub record AreDigits (text : List ℕ) : Type 0 where
  pub some : 1 ≤ length text
  pub all : prefix_len is_digit text ≡ length text
