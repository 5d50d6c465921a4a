use Rattle.use_blocks.proofs.SizeLaws.{lengths-few, literals-few, rows-few}
use Rattle.use_blocks.proofs.laws.blocks_are_few.Goals as goal

pub returns-clause-blocks : goal.returns-clause-blocks
returns-clause-blocks c = lengths-few

pub returns-clause-literals : goal.returns-clause-literals
returns-clause-literals c = literals-few

pub returns-clause-rows : goal.returns-clause-rows
returns-clause-rows c = rows-few
