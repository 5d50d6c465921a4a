-- None of the lines so far does.
use Rattle.std.{proofs.Common.{◌≡◌, drop}, specs.List.list_any}
use Rattle.deck_linker.specs.Joins.Beyond.{listed_beyond}
use Rattle.deck_linker.proofs.beyond.any_listed_beyond.Given as goal

abbrev pub invariant-loop-line : goal.invariant-loop-line
invariant-loop-line l = list_any (listed_beyond l.kind l.rows) (drop l.line-index l.lines) ≡ list_any (listed_beyond l.kind l.rows) l.lines
