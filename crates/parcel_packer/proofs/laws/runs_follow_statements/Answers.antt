use Rattle.parcel_packer.proofs.PutLaws.{runs_put, runs_begun}
use Rattle.parcel_packer.proofs.laws.runs_follow_statements.Goals as goal

pub returns-clause-joined : goal.returns-clause-joined
returns-clause-joined c = runs_put

pub returns-clause-begun : goal.returns-clause-begun
returns-clause-begun c = runs_begun
