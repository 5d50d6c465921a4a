use Rattle.definitions.proofs.ReachLaws.{statements-reach, object-reach}
use Rattle.definitions.proofs.reach_laws.statements_reach_words.Goals as goal

pub returns-clause-statements : goal.returns-clause-statements
returns-clause-statements c = λ kind statements context e. statements-reach kind statements context

pub returns-clause-objects : goal.returns-clause-objects
returns-clause-objects c = object-reach
