-- None of the blocks so far is.
use Rattle.std.{proofs.Common.{◌≡◌, drop}, specs.List.list_any}
use Rattle.deck_linker.specs.Joins.Beyond.{literals_row_beyond}
use Rattle.deck_linker.proofs.beyond.any_literals_beyond.Given as goal

abbrev pub invariant-loop-row : goal.invariant-loop-row
invariant-loop-row l = list_any (literals_row_beyond l.kind l.count) (drop l.row-index l.rows) ≡ list_any (literals_row_beyond l.kind l.count) l.rows
