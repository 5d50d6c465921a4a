-- Symbols, register names and numbers as runs of characters (COMPASS 60492600, names, registers, numeric constants).
use Rattle.std.specs.{Prelude.{ℕ, ◌+◌, ◌-◌, ◌*◌, ◌^◌, ◌==◌, List, [], ◌∷◌, Option, Some, None, Bool, false, not, ◌&&◌, ◌||◌, nat_le, nat_lt, length, drop, codes, take_while, is_some, option_map, option_and_then, if◌then◌else◌}, List.list_all}
use Rattle.definitions.specs.{Characters.{is_digit, is_symbol_character, is_among, same_text, zero_digit}, Numerals.number_of, declared.number_base.NumberBase.NumberBase, declared.number_base.NumberBase.TheVariants.{Decimal, Octal}}

-- a register: A, B or X, and its digit
pub record Register : Type 0 where
  pub letter : ℕ
  pub digit : ℕ

-- a register: A0 to A7, B0 to B7 or X0 to X7
abbrev pub register_of : List ℕ → Option Register
register_of (letter ∷ digit ∷ []) =
    if is_among letter (codes "ABX") && nat_le zero_digit digit && nat_le digit (zero_digit + 7)
    then Some (record { letter = letter; digit = digit - zero_digit }) else None
register_of _ = None

-- whether a text is the name of a register
abbrev pub is_register : List ℕ → Bool
is_register text = is_some (register_of text)

-- the first character is no digit, no `$` and no `=`
abbrev pub begins_symbol : List ℕ → Bool
begins_symbol [] = false
begins_symbol (c ∷ cs) = not (is_digit c) && not (is_among c (codes "$="))

-- 1 to 8 characters, and no register name
abbrev pub is_symbol : List ℕ → Bool
is_symbol text = begins_symbol text && list_all is_symbol_character text && nat_le (length text) 8 && not (is_register text)

-- names in ENTRY and EXT have at most 7 characters
abbrev pub is_linked_name : List ℕ → Bool
is_linked_name text = is_symbol text && nat_le (length text) 7

-- whether a block is the nominal one
abbrev pub is_nominal : List ℕ → Bool
is_nominal text = same_text text (codes "0")

-- a block name is a symbol or `0`
abbrev pub is_block_name : List ℕ → Bool
is_block_name text = is_symbol text || is_nominal text

-- the greatest size of a number
abbrev pub greatest : ℕ
greatest = 2 ^ 60 - 1

-- a number, or one above the greatest
pub data Number : Type 0 where
  Value : ℕ → Number
  TooGreat : Number

-- the suffix of a decimal number
abbrev pub decimal_suffix : ℕ
decimal_suffix = 68

-- what stands in front of a scale
abbrev pub scale_letter : ℕ
scale_letter = 83

-- the number to this base; an 8 or 9 is no octal digit
abbrev pub scaled : NumberBase → List ℕ → ℕ → Option ℕ
scaled Decimal digits scale = Some (number_of 10 digits * 2 ^ scale)
scaled Octal digits scale = if list_all (λ c. nat_lt c (zero_digit + 8)) digits then Some (number_of 8 digits * 2 ^ scale) else None

-- nothing, or S and one or two decimal digits
abbrev pub scale_of : List ℕ → Option ℕ
scale_of [] = Some 0
scale_of (s ∷ digits) =
    if (s == scale_letter) && nat_le 1 (length digits) && nat_le (length digits) 2 && list_all is_digit digits then Some (number_of 10 digits) else None

-- digits, and what stands behind them: a suffix B, O or D, and a scale
abbrev pub behind_digits : NumberBase → List ℕ → List ℕ → Option ℕ
behind_digits base digits [] = scaled base digits 0
behind_digits base digits (c ∷ rest) =
    if is_among c (codes "BO") then option_and_then (scaled Octal digits) (scale_of rest)
    else if c == decimal_suffix then option_and_then (scaled Decimal digits) (scale_of rest)
    else option_and_then (scaled base digits) (scale_of (c ∷ rest))

-- a number up to the greatest, or the mark of one above it
abbrev pub bounded : Option ℕ → Option Number
bounded value = option_map (λ n. if nat_le n greatest then Value n else TooGreat) value

-- the number that a run of characters spells, if it spells one
abbrev pub number_read : NumberBase → List ℕ → Option Number
number_read base text =
    let digits = take_while is_digit text in
    if nat_le 1 (length digits) then bounded (behind_digits base digits (drop (length digits) text)) else None
