use Rattle.std.proofs.Common.{◌≡◌}
use Rattle.session_line.specs.Joins.LineItems.{TakesItems}
use Rattle.session_line.proofs.reading.read_items.Given as goal

-- so many lines are taken and read, and the reader has not failed
abbrev pub invariant-loop-number : goal.invariant-loop-number
invariant-loop-number g l = record {
  taken : TakesItems g.T.LineItem.item_of (g.R.Read.remaining l.fn.input.0) (g.R.Read.remaining l.input.0) l.number l.items;
  sound : l.input.1 ≡ l.fn.input.1;
}
