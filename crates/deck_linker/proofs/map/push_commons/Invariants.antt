-- The lines so far, and those of the common blocks that are left.
use Rattle.std.{proofs.Common.{◌≡◌, ◌++◌, drop}, specs.Prelude.flat_map}
use Rattle.definitions.specs.Map.{common_line}
use Rattle.deck_linker.proofs.map.push_commons.Given as goal

abbrev pub invariant-loop-common : goal.invariant-loop-common
invariant-loop-common l = l.text ++ flat_map common_line (drop l.common-index l.commons) ≡ l.fn.text ++ flat_map common_line l.commons
