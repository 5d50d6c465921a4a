use Rattle.use_blocks.proofs.SizeLaws.{reached-bounded, lengths-bounded}
use Rattle.use_blocks.proofs.laws.blocks_are_bounded.Goals as goal

pub returns-clause-statements : goal.returns-clause-statements
returns-clause-statements c = reached-bounded

pub returns-clause-blocks : goal.returns-clause-blocks
returns-clause-blocks c = lengths-bounded
