use Rattle.desk_core.proofs.WorkEnds.{ends_at_idle}
use Rattle.desk_core.proofs.laws.work_ends.Goals as goal

pub returns : goal.returns
returns c = ends_at_idle
