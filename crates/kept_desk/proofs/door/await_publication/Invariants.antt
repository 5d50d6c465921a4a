use Rattle.kept_desk.specs.Waiting.{SleepsOn}
use Rattle.kept_desk.proofs.door.await_publication.Given as goal

-- each sleep so far ended since the version was delivered
abbrev pub invariant-loop : goal.invariant-loop
invariant-loop g l = SleepsOn g.D.Called.makes g.E.Ends.relations.sleeps l.version l.fn.desk l.fn.ends l.desk l.ends
