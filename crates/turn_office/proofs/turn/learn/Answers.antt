use Rattle.std.proofs.Common.{rules}
use Rattle.turn_office.proofs.Steps.{learns}
use Rattle.turn_office.proofs.turn.learn.Goals as goal

pub load-requires : goal.load-requires
load-requires g c = (c.requires.own.0, search rules, learns g.O.Sequential.allowed _ _ _ _ _ _ c.requires.told)
