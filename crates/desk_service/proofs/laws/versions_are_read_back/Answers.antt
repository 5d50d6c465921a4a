use Rattle.desk_service.proofs.VersionTexts.{mark-back, versions-back}
use Rattle.desk_service.proofs.laws.versions_are_read_back.Goals as goal

pub returns-clause-note : goal.returns-clause-note
returns-clause-note c = mark-back

pub returns-clause-text : goal.returns-clause-text
returns-clause-text c = versions-back
