-- The names of symbols as one number (COMPASS 60492600, names; the number is ours).
use Rattle.std.specs.{Prelude.{ℕ, ◌-◌, ◌==◌, nat_lt, nat_le, Bool, not, ◌&&◌, List, ◌++◌, length, replicate, Option, Some, None, if◌then◌else◌}, Int.{w64, from_be_bytes}, List.list_all}
use Rattle.deck_assembler.specs.declared.symbol_key.SymbolKey.{SymbolKey}

-- 1 to 8 characters, none of them a blank
abbrev pub is_name : List ℕ → Bool
is_name text = nat_lt 0 (length text) && nat_le (length text) 8 && list_all (λ c. not (c == 32)) text

-- the characters with blanks behind them, 8 in all
abbrev pub padded : List ℕ → List ℕ
padded text = text ++ replicate (8 - length text) 32

-- the key of the name that a text is: its 8 characters as one number, the first in the highest place
abbrev pub key_of : List ℕ → Option SymbolKey
key_of text = if is_name text then Some (record { code = from_be_bytes w64 (padded text) }) else None
