use Rattle.statement_coder.proofs.JoinLaws.{width-listed, joined-listed}
use Rattle.statement_coder.proofs.laws.lists_keep_bits.Goals as goal

pub returns-clause-width : goal.returns-clause-width
returns-clause-width c = width-listed

pub returns-clause-bits : goal.returns-clause-bits
returns-clause-bits c = joined-listed
