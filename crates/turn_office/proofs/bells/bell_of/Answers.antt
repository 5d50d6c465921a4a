use Rattle.std.proofs.Common.{arith}
use Rattle.turn_office.proofs.bells.bell_of.Goals as goal

pub returns-clause-own : goal.returns-clause-own
returns-clause-own c t other is near same = omega (arith, is, near, same)
