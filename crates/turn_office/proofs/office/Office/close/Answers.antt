use Rattle.turn_office.proofs.Gathering.{ends_all}
use Rattle.turn_office.proofs.office.Office.close.Goals as goal

pub returns-clause-object : goal.returns-clause-object
returns-clause-object g c = ends_all g.O.Sequential.allowed _ _ c.args.seats.items c.gather-keeper.result.me c.end.result c.gather-keeper.ensures.all c.end.ensures
