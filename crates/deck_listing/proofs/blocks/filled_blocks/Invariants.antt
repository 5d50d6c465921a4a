use Rattle.std.{proofs.Common.take, specs.List.AllZip}
use Rattle.deck_listing.specs.Joins.BlockWords.{IsFilledWith}
use Rattle.deck_listing.proofs.blocks.filled_blocks.Given as goal

abbrev pub invariant-loop-words : goal.invariant-loop-words
invariant-loop-words l = AllZip IsFilledWith (take l.words-index l.packed) l.blocks.items
