use Rattle.deck_listing.specs.Joins.Walking.{AreEmpty}
use Rattle.deck_listing.proofs.blocks.empty_blocks.Given as goal

abbrev pub invariant-loop-row : goal.invariant-loop-row
invariant-loop-row l = AreEmpty l.kind l.row-index l.blocks.items
