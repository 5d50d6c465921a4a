use Rattle.std.proofs.Common.{rules}
use Rattle.turn_office.proofs.Steps.{draws}
use Rattle.turn_office.proofs.turn.draw.Goals as goal

pub fetch_add-requires : goal.fetch_add-requires
fetch_add-requires g c = (c.requires.own.0, search rules, draws g.O.Sequential.allowed _ _ _ _ _ c.requires.rests.0 c.requires.rests.1)
