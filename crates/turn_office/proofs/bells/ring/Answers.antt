use Rattle.std.proofs.Common.{rules}
use Rattle.turn_office.proofs.Steps.{rings}
use Rattle.turn_office.proofs.bells.ring.Goals as goal

pub fetch_add-requires : goal.fetch_add-requires
fetch_add-requires g c = (c.requires.own.0, search rules, rings g.O.Sequential.allowed _ _ _ _ _ _ (search rules))
