use Rattle.std.proofs.Common.{drop}
use Rattle.deck_assembler.specs.Joins.{Walks.{IsWhole, Whole}, DeckWalks.IsListing}
use Rattle.deck_assembler.proofs.deck_walk.list_all.Given as goal

-- the statements so far are listed
abbrev pub invariant-loop-count : goal.invariant-loop-count
invariant-loop-count l = (whole : Whole) → IsWhole whole → IsListing whole l.counts l.fn.lines → IsListing whole (drop l.count-index l.counts) l.lines
