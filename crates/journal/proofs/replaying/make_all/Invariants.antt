use Rattle.std.proofs.Common.{◌≡◌}
use Rattle.journal.proofs.ReplaySteps.{AreMade}
use Rattle.journal.proofs.replaying.make_all.Given as goal

-- the changes of the records so far are made, and the reader has not failed
abbrev pub invariant-loop : goal.invariant-loop
invariant-loop g l = record {
  made : AreMade (g.R.Read.remaining l.fn.input.0) (g.R.Read.remaining l.input.0) l.is_first l.desk l.place l.counter;
  sound : l.input.1 ≡ l.fn.input.1;
}
