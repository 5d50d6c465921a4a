use Rattle.std.proofs.Common.{◌≡◌, take, flat_map}
use Rattle.images.specs.PackedImages.{section_bytes}
use Rattle.images.proofs.packed_images.PackedImage.of.Given as goal

-- the sections so far are put
abbrev pub invariant-loop-section : goal.invariant-loop-section
invariant-loop-section l = l.packed ≡ flat_map section_bytes (take l.section-index l.section-items)
