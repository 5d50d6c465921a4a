use Rattle.definitions.proofs.ReboundLaws.{letters-enough, fields-enough}
use Rattle.definitions.proofs.edit_laws.bindings_are_enough.Goals as goal

pub returns-clause-letters : goal.returns-clause-letters
returns-clause-letters c = letters-enough

pub returns-clause-fields : goal.returns-clause-fields
returns-clause-fields c = fields-enough
