use Rattle.std.proofs.Common.{◌∷◌}
use Rattle.definitions.{specs.Settling.{settle, settled_all}, proofs.StateSteps.{state_after-step, settled_all-in_use}}
use Rattle.definitions.proofs.state_laws.states_step.Goals as goal

pub returns : goal.returns
returns c = λ kind statements statement. state_after-step kind (settle kind (settled_all kind statements) statement) (settled_all kind statements) (settled_all-in_use kind (statement ∷ statements))
