use Rattle.desk_service.{specs.Sessions.{ServesSession, closed, opened}, proofs.SessionSteps.faults-counted}
use Rattle.desk_service.proofs.sessions.serve_session.Goals as goal

pub returns-in-Some : goal.returns-in-Some
returns-in-Some g c =
    let session : ServesSession c.args.rights g.C.Calls.relations g.S.Shelf.relations _ _ c.in-Some.ending =
    record { begun = c.begin_session.new.self; begins_so = c.begin_session.ensures; served = closed (rw (← c.in-Some.is) c.open_session.ensures) } in
    let counts = faults-counted _ _ _ _ _ _ session in
    record { session = session; read_faults = counts.0; write_faults = counts.1 }

pub returns-in-None : goal.returns-in-None
returns-in-None g c =
    let session : ServesSession c.args.rights g.C.Calls.relations g.S.Shelf.relations _ _ c.serve_lines.result =
    record { begun = c.begin_session.new.self; begins_so = c.begin_session.ensures; served = opened _ (rw (← c.in-None.is) c.open_session.ensures) c.serve_lines.ensures } in
    let counts = faults-counted _ _ _ _ _ _ session in
    record { session = session; read_faults = counts.0; write_faults = counts.1 }
