use Rattle.desk_service.specs.Sessions.{OpensLines, between}
use Rattle.desk_service.proofs.openings.open_session.Given as goal

-- so many lines that are no commands, none of which ended the session
abbrev pub invariant-loop-number : goal.invariant-loop-number
invariant-loop-number g l =
    OpensLines l.rights g.C.Calls.relations g.S.Shelf.relations (between g.R.Read.remaining g.W.Write.contents l.fn.input l.fn.output l.fn.desk l.fn.shelf)
    (between g.R.Read.remaining g.W.Write.contents l.input l.output l.desk l.shelf) l.number
