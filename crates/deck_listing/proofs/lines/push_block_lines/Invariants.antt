use Rattle.std.proofs.Common.{◌≡◌, ◌++◌, drop, flat_map}
use Rattle.definitions.specs.Listing.{block_line}
use Rattle.deck_listing.proofs.lines.push_block_lines.Given as goal

-- the lines so far and those of the blocks that are left are those of all
abbrev pub invariant-loop-row : goal.invariant-loop-row
invariant-loop-row l = l.text ++ flat_map block_line (drop l.row-index l.rows) ≡ l.fn.text ++ flat_map block_line l.rows
