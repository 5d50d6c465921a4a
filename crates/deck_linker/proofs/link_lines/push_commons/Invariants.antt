-- The lines of the common blocks that are left complete those of all.
use Rattle.std.{proofs.Common.{◌≡◌, drop}, specs.Prelude.flat_map}
use Rattle.deck_linker.specs.Joins.{DeckLines.lines_of_common, Lines.with_lines}
use Rattle.deck_linker.proofs.link_lines.push_commons.Given as goal

abbrev pub invariant-loop-common : goal.invariant-loop-common
invariant-loop-common l = with_lines l.out (flat_map lines_of_common (drop l.common-index l.commons)) ≡ with_lines l.fn.out (flat_map lines_of_common l.commons)
