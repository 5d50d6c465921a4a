use Rattle.std.proofs.Common.{refl, ◌∷◌}
use Rattle.definitions.{specs.Settling.{settle, settled_all}, proofs.StateSteps.{lengths_of-step, settled_all-in_use}}
use Rattle.definitions.proofs.state_laws.lengths_follow.Goals as goal

pub returns-clause-step : goal.returns-clause-step
returns-clause-step c = λ kind statements statement. lengths_of-step kind (settle kind (settled_all kind statements) statement) (settled_all kind statements) (settled_all-in_use kind (statement ∷ statements))

pub returns-clause-bases : goal.returns-clause-bases
returns-clause-bases c = λ kind statements. refl
