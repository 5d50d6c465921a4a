use Rattle.std.proofs.Common.{◌≡◌}
use Rattle.journal.proofs.ReadingSteps.{IsWithin}
use Rattle.journal.proofs.reading.next_record.Given as goal

-- the lines so far leave the journal of what is left, and the reader has not failed
abbrev pub invariant-loop : goal.invariant-loop
invariant-loop g l = record {
  within : IsWithin (g.R.Read.remaining l.fn.input.0) (g.R.Read.remaining l.input.0) l.fn.place l.current l.place l.counter;
  sound : l.input.1 ≡ l.fn.input.1;
}
