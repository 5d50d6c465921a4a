use Rattle.definitions.proofs.RiseLaws.{statements-laid_out, object-laid_out}
use Rattle.definitions.proofs.place_laws.statements_are_laid_out.Goals as goal

pub returns-clause-statements : goal.returns-clause-statements
returns-clause-statements c = statements-laid_out

pub returns-clause-objects : goal.returns-clause-objects
returns-clause-objects c = object-laid_out
