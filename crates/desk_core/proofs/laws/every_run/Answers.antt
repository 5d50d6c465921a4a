use Rattle.desk_core.proofs.{EveryRun.{shown_is_build, refused_changes_nothing, is_of_its_changes}, IdleClaims.idle_is_published, Published.never_falls}
use Rattle.desk_core.proofs.laws.every_run.Goals as goal

pub returns-clause-shown : goal.returns-clause-shown
returns-clause-shown c = shown_is_build

pub returns-clause-refused : goal.returns-clause-refused
returns-clause-refused c = refused_changes_nothing

pub returns-clause-idle : goal.returns-clause-idle
returns-clause-idle c = idle_is_published

pub returns-clause-changes : goal.returns-clause-changes
returns-clause-changes c = is_of_its_changes

pub returns-clause-published : goal.returns-clause-published
returns-clause-published c = never_falls
