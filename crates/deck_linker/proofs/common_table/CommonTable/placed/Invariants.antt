-- The common blocks so far, and behind them those that are left.
use Rattle.std.proofs.Common.{◌≡◌, ◌≤◌, ◌++◌}
use Rattle.definitions.specs.Layout.{commons_from}
use Rattle.deck_linker.specs.Joins.CommonLengths.{lengths_shown}
use Rattle.deck_linker.proofs.common_table.CommonTable.placed.Given as goal

abbrev pub invariant-loop-name : goal.invariant-loop-name
invariant-loop-name l = record {
  placed : l.commons.keys ++ commons_from l.end (lengths_shown l.name-iterator) ≡ commons_from l.base l.self;
  within : l.end ≤ 0o400000;
}
