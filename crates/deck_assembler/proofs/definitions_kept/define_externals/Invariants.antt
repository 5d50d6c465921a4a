use Rattle.std.proofs.Common.{◌≡◌, length}
use Rattle.deck_assembler.specs.Joins.{FirstSymbols.{symbol_in, with_externals}, SharedNames.with_new}
use Rattle.deck_assembler.proofs.definitions_kept.define_externals.Given as goal

-- the names that are left make the symbols of all, and the externals
abbrev pub invariant-names : goal.invariant-names
invariant-names l = record {
  symbols : with_externals l.rest (symbol_in l.symbols) ≡ with_externals l.fn.names (symbol_in l.initial.symbols);
  externals : with_new l.rest (symbol_in l.symbols) l.externals.items ≡ with_new l.fn.names (symbol_in l.initial.symbols) l.initial.externals.items;
}

abbrev pub decreases-names : goal.decreases-names
decreases-names l = length l.rest
