use Rattle.desk_core.proofs.OwnPublication.{published_delivered}
use Rattle.desk_core.proofs.laws.published_is_delivered.Goals as goal

pub returns : goal.returns
returns c = published_delivered
