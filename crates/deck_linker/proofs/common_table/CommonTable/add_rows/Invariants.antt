-- The common blocks with those of the rows that are left.
use Rattle.std.proofs.Common.{◌≡◌, drop}
use Rattle.definitions.specs.Layout.{with_commons}
use Rattle.deck_linker.proofs.common_table.CommonTable.add_rows.Given as goal

abbrev pub invariant-loop-row : goal.invariant-loop-row
invariant-loop-row l = with_commons (drop l.row-index l.rows) l.self ≡ with_commons l.rows l.fn.self
