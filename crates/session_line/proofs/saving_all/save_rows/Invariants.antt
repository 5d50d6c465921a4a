use Rattle.std.{proofs.Common.{◌≡◌, ◌≤◌, length, take}, specs.Prelude.vec_capacity}
use Rattle.session_line.specs.SavingAll.{SavesRows}
use Rattle.session_line.proofs.saving_all.save_rows.Given as goal

-- the decks so far were saved where their files had not their cards, and there is room for a line of each
abbrev pub invariant-loop-row : goal.invariant-loop-row
invariant-loop-row g l = record {
  saved : SavesRows g.C.Calls.relations.asks g.S.Shelf.relations l.fn.desk l.fn.shelf (take l.row-index l.rows) l.saved.items l.desk l.shelf;
  few : length l.saved.items ≤ l.row-index;
  room : vec_capacity l.saved ≡ length l.rows;
}
