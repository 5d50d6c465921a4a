use Rattle.use_blocks.specs.Joins.Changes.{block_now}
use Rattle.use_blocks.proofs.block_state.BlockState.origin.Goals as goal

pub returns : goal.returns
returns c = rw (← c.block.ensures.name, ← c.name.ensures) (c.origin.ensures (block_now c.args.self.now).counting)
