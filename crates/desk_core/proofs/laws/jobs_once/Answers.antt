use Rattle.desk_core.proofs.{JobsOnce.jobs_are_due, EditsOnce.edits_are_once}
use Rattle.desk_core.proofs.laws.jobs_once.Goals as goal

pub returns-clause-due : goal.returns-clause-due
returns-clause-due c = jobs_are_due

pub returns-clause-once : goal.returns-clause-once
returns-clause-once c = edits_are_once
