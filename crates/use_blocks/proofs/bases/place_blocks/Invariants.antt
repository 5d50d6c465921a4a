-- The rows so far, and behind them those of the blocks that are left.
use Rattle.std.proofs.Common.{◌≡◌, ◌+◌, ◌*◌, ◌^◌, ◌≤◌, ◌++◌, length}
use Rattle.definitions.specs.Lengths.{rows_from, total_length}
use Rattle.use_blocks.specs.Joins.{BlockLengths.lengths_shown, KeyedRows.keyed_rows}
use Rattle.use_blocks.proofs.bases.place_blocks.Given as goal

abbrev pub invariant-loop-name : goal.invariant-loop-name
invariant-loop-name l = record {
  rows : l.rows.entries ++ keyed_rows (rows_from l.end (lengths_shown l.name-iterator)) ≡ keyed_rows (rows_from 0 (lengths_shown l.blocks.entries));
  sum : l.end + total_length (rows_from l.end (lengths_shown l.name-iterator)) ≡ total_length (rows_from 0 (lengths_shown l.blocks.entries));
  small : l.end + length l.name-iterator * 2 ^ 32 ≤ 2 ^ 38;
}
