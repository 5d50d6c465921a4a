-- Entries and externals, as they are found in the order of the deck.
use Rattle.std.specs.{Prelude.{ℕ, ◌≡◌, ◌∷◌, ◌++◌, List, [], Bool, true, false, Option, Some, None, is_some, map, nat_eq, if◌then◌else◌}, Map.{lookup, values_of}}
use Rattle.definitions.specs.{Forms.Form, Operands.{Operand, NamesOperand}, Operations.Operation, Entries.entries_among, Settled.{Settled, Definition, defined_in}, Settling.{View, external}, declared.deck_kind.DeckKind.DeckKind, declared.deck_kind.DeckKind.TheVariants.Periph}
use Rattle.definitions.specs.Operations as op
use Rattle.statement_coder.specs.declared.definitions_made.Defines as code
use Rattle.statement_coder.specs.declared.definitions_made.Defines.TheVariants as defines
use Rattle.deck_assembler.specs.Joins.FirstSymbols.{symbol_in, with_symbol}

-- the names that are seen are those of the entries, each with its value
abbrev pub AreSeen : List (ℕ × Form) → List Definition → Type 0
AreSeen seen entries = symbol_in seen ≡ (λ name. defined_in name entries)

-- the value of each name in a table of entries, where a name is a number
abbrev pub forms_in : List (ℕ × Definition) → List (ℕ × Form)
forms_in table = map (λ (row : ℕ × Definition). (row.0, row.1.form)) table

-- each entry stands under the number of its name
abbrev pub IsEntryTable : List (ℕ × Definition) → Type 0
IsEntryTable table = AreSeen (forms_in table) (values_of table)

-- a table with an entry more under this number, unless there is one
abbrev pub with_row : ℕ → Definition → List (ℕ × Definition) → List (ℕ × Definition)
with_row code entry table = if is_some (lookup (nat_eq code) table) then table else table ++ (code, entry) ∷ []

-- the externals so far with the names of an EXT that have no value yet
abbrev pub with_new : List (Option (List ℕ)) → View → List (List ℕ) → List (List ℕ)
with_new [] symbols so_far = so_far
with_new (None ∷ names) symbols so_far = with_new names symbols so_far
with_new (Some name ∷ names) symbols so_far = with_new names (with_symbol name (external name).form symbols) (if is_some (symbols name) then so_far else so_far ++ name ∷ [])

-- the externals so far with the names of an operand that have no value yet, if it has names
abbrev pub with_new_of : Operand → View → List (List ℕ) → List (List ℕ)
with_new_of (NamesOperand names) symbols so_far = with_new names symbols so_far
with_new_of operand symbols so_far = so_far

-- the externals so far with those that a statement with this operand defines
abbrev pub with_new_by : Operand → code.Defines → View → List (List ℕ) → List (List ℕ)
with_new_by operand defines.Nothing symbols so_far = so_far
with_new_by operand (defines.Symbol form) symbols so_far = so_far
with_new_by operand defines.Externals symbols so_far = with_new_of operand symbols so_far

-- whether a statement enters names; in a peripheral deck none does
abbrev pub enters : DeckKind → Operation → Bool
enters Periph operation = false
enters kind op.Entry = true
enters kind operation = false

-- the entries of some statements, by the values among all; a peripheral deck has none
abbrev pub entries_to : DeckKind → List Settled → List Settled → List Definition
entries_to Periph all settled = []
entries_to kind all settled = entries_among all settled
