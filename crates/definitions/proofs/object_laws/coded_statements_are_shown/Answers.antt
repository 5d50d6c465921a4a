use Rattle.definitions.proofs.ObjectLaws.{object-shown}
use Rattle.definitions.proofs.object_laws.coded_statements_are_shown.Goals as goal

pub returns : goal.returns
returns c = record { shown = object-shown }
