use Rattle.definitions.proofs.FillLaws.{settle-fit, settle-long}
use Rattle.definitions.proofs.field_laws.fields_fit.Goals as goal

pub returns-clause-fitting : goal.returns-clause-fitting
returns-clause-fitting c = settle-fit

pub returns-clause-long : goal.returns-clause-long
returns-clause-long c = settle-long
