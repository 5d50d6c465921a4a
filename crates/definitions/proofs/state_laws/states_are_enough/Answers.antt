use Rattle.std.proofs.Common.{ap}
use Rattle.definitions.{specs.Settling.{settled_from, settled_all}, proofs.StateSteps.seen_of-state, proofs.ViewLaws.settled_from-agree}
use Rattle.definitions.proofs.state_laws.states_are_enough.Goals as goal

pub returns-clause-sees : goal.returns-clause-sees
returns-clause-sees c = λ kind statements statement. ap (λ seen. settled_from kind seen statement) (seen_of-state (settled_all kind statements))

pub returns-clause-rests : goal.returns-clause-rests
returns-clause-rests c = settled_from-agree
