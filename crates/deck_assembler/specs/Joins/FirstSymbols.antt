-- The first definition of each symbol, by the number that its name is.
use Rattle.std.specs.{Prelude.{ℕ, ⊤, ◌&&◌, nat_lt, nat_eq, Bool, List, [], ◌∷◌, Option, Some, None, if◌then◌else◌}, Int.{w64, from_be_bytes}, List.{AllByRecursion, list_all}, Map.lookup, Option.option_or}
use Rattle.definitions.specs.{Characters.same_text, Forms.Form, Operands.{Operand, NamesOperand}, Settling.{View, external}}
use Rattle.statement_coder.specs.Joins.Readings.{IsLawfulName}
use Rattle.statement_coder.specs.declared.definitions_made.Defines as code
use Rattle.statement_coder.specs.declared.definitions_made.Defines.TheVariants as defines
use Rattle.deck_assembler.specs.Joins.SymbolKeys.{is_name, padded}

-- whether a text is a name of bytes
abbrev pub is_known_name : List ℕ → Bool
is_known_name name = is_name name && list_all (λ c. nat_lt c 256) name

-- the number that a name is
abbrev pub number_of_name : List ℕ → ℕ
number_of_name name = from_be_bytes w64 (padded name)

-- the value of a symbol among definitions by number
abbrev pub symbol_in : List (ℕ × Form) → View
symbol_in forms name = if is_known_name name then lookup (nat_eq (number_of_name name)) forms else None

-- the values of symbols with one definition more, if its name is one; an earlier one stays
abbrev pub with_symbol : List ℕ → Form → View → View
with_symbol name form symbols other = option_or (symbols other) (if is_known_name name && same_text other name then Some form else None)

-- the values of symbols with the names of an EXT
abbrev pub with_externals : List (Option (List ℕ)) → View → View
with_externals [] symbols = symbols
with_externals (None ∷ names) symbols = with_externals names symbols
with_externals (Some name ∷ names) symbols = with_externals names (with_symbol name (external name).form symbols)

-- the values of symbols with the names of an operand, if it has names
abbrev pub with_names : Operand → View → View
with_names (NamesOperand names) symbols = with_externals names symbols
with_names _ symbols = symbols

-- the values of symbols with what a statement with this location field and this operand defines
abbrev pub with_defined : List ℕ → Operand → code.Defines → View → View
with_defined location operand defines.Nothing symbols = symbols
with_defined location operand (defines.Symbol form) symbols = with_symbol location form symbols
with_defined location operand defines.Externals symbols = with_names operand symbols

-- the names that an operand has are lawful
abbrev pub IsLawfulOperand : Operand → Type 0
IsLawfulOperand (NamesOperand names) = AllByRecursion IsLawfulName names
IsLawfulOperand _ = ⊤
