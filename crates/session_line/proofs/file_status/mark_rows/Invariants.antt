use Rattle.std.{proofs.Common.{◌≡◌, length, take}, specs.Prelude.vec_capacity}
use Rattle.session_line.specs.FileStatus.{MarksRows}
use Rattle.session_line.proofs.file_status.mark_rows.Given as goal

-- the decks so far are marked, and there is room for all
abbrev pub invariant-loop-row : goal.invariant-loop-row
invariant-loop-row g l = record {
  marked : MarksRows g.S.Shelf.relations l.fn.shelf (take l.row-index l.rows) l.marks.items l.shelf;
  each : length l.marks.items ≡ l.row-index;
  room : vec_capacity l.marks ≡ length l.rows;
}
