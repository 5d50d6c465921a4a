use Rattle.std.proofs.Common.{rules}
use Rattle.turn_office.proofs.Steps.{gives}
use Rattle.turn_office.proofs.turn.end_turn.Goals as goal

pub fetch_add-ticket-requires : goal.fetch_add-ticket-requires
fetch_add-ticket-requires g c = (c.requires.own.0, search rules, gives g.O.Sequential.allowed _ _ _ _ _ _ _ _ _ _ c.requires.told c.requires.stepped)
