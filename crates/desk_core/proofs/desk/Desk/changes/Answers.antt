use Rattle.desk_core.proofs.desk.Desk.changes.Goals as goal

pub changes_at-requires : goal.changes_at-requires
changes_at-requires c = (c.place_of.ensures.some c.in-Some.place c.in-Some.is).1
