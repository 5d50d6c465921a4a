-- The sections so far, and those of the common blocks that are left.
use Rattle.std.{proofs.Common.{◌≡◌, ◌++◌, drop}, specs.Prelude.flat_map}
use Rattle.definitions.specs.Image.{common_section_by}
use Rattle.deck_linker.proofs.common_image.push_commons.Given as goal

abbrev pub invariant-loop-common : goal.invariant-loop-common
invariant-loop-common l = l.text ++ flat_map (common_section_by l.layout) (drop l.common-index l.common-items) ≡ l.fn.text ++ flat_map (common_section_by l.layout) l.common-items
