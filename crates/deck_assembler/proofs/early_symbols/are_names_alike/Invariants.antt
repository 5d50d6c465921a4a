use Rattle.std.proofs.Common.{length}
use Rattle.definitions.specs.Laws.Agreement.{Agree, lawful_names}
use Rattle.deck_assembler.specs.Joins.FirstSymbols.{symbol_in}
use Rattle.deck_assembler.proofs.early_symbols.are_names_alike.Given as goal

-- all names are alike where those that are left are, and those that are left where all are
abbrev pub invariant-names : goal.invariant-names
invariant-names l = record {
  all : Agree (symbol_in l.first) (symbol_in l.second) (lawful_names l.rest) → Agree (symbol_in l.first) (symbol_in l.second) (lawful_names l.fn.names);
  left : Agree (symbol_in l.first) (symbol_in l.second) (lawful_names l.fn.names) → Agree (symbol_in l.first) (symbol_in l.second) (lawful_names l.rest);
}

abbrev pub decreases-names : goal.decreases-names
decreases-names l = length l.rest
