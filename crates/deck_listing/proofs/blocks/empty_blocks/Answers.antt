use Rattle.deck_listing.proofs.BlockSteps.{empty-more}
use Rattle.deck_listing.proofs.blocks.empty_blocks.Goals as goal

pub loop-row-preserved : goal.loop-row-preserved
loop-row-preserved c = empty-more c.args.kind c.loop-row.row-index c.loop-row.blocks.items c.push.new.self.items c.empty_block.result c.loop-row.invariant c.empty_block.ensures c.in_ok-push.ensures.items
