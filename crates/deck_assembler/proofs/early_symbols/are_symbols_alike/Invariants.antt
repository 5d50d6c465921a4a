use Rattle.std.proofs.Common.{length}
use Rattle.definitions.specs.Laws.Agreement.{Agree, symbols_in}
use Rattle.deck_assembler.specs.Joins.FirstSymbols.{symbol_in}
use Rattle.deck_assembler.proofs.early_symbols.are_symbols_alike.Given as goal

-- all symbols are alike where those that are left are, and those that are left where all are
abbrev pub invariant-symbols : goal.invariant-symbols
invariant-symbols l = record {
  all : Agree (symbol_in l.first) (symbol_in l.second) l.rest → Agree (symbol_in l.first) (symbol_in l.second) (symbols_in l.expression);
  left : Agree (symbol_in l.first) (symbol_in l.second) (symbols_in l.expression) → Agree (symbol_in l.first) (symbol_in l.second) l.rest;
}

abbrev pub decreases-symbols : goal.decreases-symbols
decreases-symbols l = length l.rest
