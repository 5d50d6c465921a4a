use Rattle.desk_service.proofs.KeptChanges.{changes-kept}
use Rattle.desk_service.proofs.laws.told_changes_are_kept.Goals as goal

pub returns : goal.returns
returns g c = λ old new change told version journaled is made. changes-kept g.F.RecordsFile.has_done g.D.Called.makes old new change told version journaled is made
