use Rattle.desk_service.specs.Sessions.{ServesLines, between}
use Rattle.desk_service.proofs.sessions.serve_lines.Given as goal

-- so many lines were served, none of which ended the session
abbrev pub invariant-loop : goal.invariant-loop
invariant-loop g l =
    ServesLines l.rights g.C.Calls.relations g.S.Shelf.relations (between g.R.Read.remaining g.W.Write.contents l.fn.input l.fn.output l.fn.desk l.fn.shelf)
    (between g.R.Read.remaining g.W.Write.contents l.input l.output l.desk l.shelf) l.counter
