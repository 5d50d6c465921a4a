use Rattle.definitions.proofs.FillLaws.{settle-fill, settle-ordered, settle-some}
use Rattle.definitions.proofs.field_laws.fields_fill.Goals as goal

pub returns-clause-filled : goal.returns-clause-filled
returns-clause-filled c = settle-fill

pub returns-clause-ordered : goal.returns-clause-ordered
returns-clause-ordered c = settle-ordered

pub returns-clause-some : goal.returns-clause-some
returns-clause-some c = settle-some
