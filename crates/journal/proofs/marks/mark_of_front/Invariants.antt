use Rattle.journal.specs.Marks.{IsRead}
use Rattle.journal.proofs.marks.mark_of_front.Given as goal

-- the bytes so far have this mark
abbrev pub invariant-loop : goal.invariant-loop
invariant-loop g l = record { read : IsRead (g.R.Read.remaining l.fn.input) (g.R.Read.remaining l.input) l.fn.most l.mark }
