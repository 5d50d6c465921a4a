use Rattle.definitions.proofs.LengthLaws.{base-local, base-common}
use Rattle.definitions.proofs.laws.bases_are_sums.Goals as goal

pub returns-clause-local : goal.returns-clause-local
returns-clause-local c = base-local

pub returns-clause-common : goal.returns-clause-common
returns-clause-common c = base-common
