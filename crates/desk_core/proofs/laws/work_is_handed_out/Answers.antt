use Rattle.desk_core.proofs.Progress.{deck_is_handed, link_is_handed}
use Rattle.desk_core.proofs.laws.work_is_handed_out.Goals as goal

pub returns-clause-deck : goal.returns-clause-deck
returns-clause-deck c = deck_is_handed

pub returns-clause-link : goal.returns-clause-link
returns-clause-link c = link_is_handed
