use Rattle.std.proofs.Common.{◌≡◌, List, length}
use Rattle.definitions.specs.{Entries.with_entries, Settled.{Settled, defined}}
use Rattle.deck_assembler.specs.Joins.FirstSymbols.{symbol_in}
use Rattle.deck_assembler.proofs.entry_names.EntryNames.enter_all.Given as goal

-- the names that are left make of the entries so far what all make
abbrev pub invariant-names : goal.invariant-names
invariant-names l =
    (settled : List Settled) → symbol_in l.symbols ≡ (λ name. defined name settled) → with_entries settled l.rest l.self ≡ with_entries settled l.fn.names l.fn.self

abbrev pub decreases-names : goal.decreases-names
decreases-names l = length l.rest
