use Rattle.std.proofs.Common.{◌≡◌, ◌++◌, take, flat_map}
use Rattle.images.specs.PackedImages.{row_bytes}
use Rattle.images.proofs.packed_images.PackedImage.push_section.Given as goal

-- the rows so far are put
abbrev pub invariant-loop-row : goal.invariant-loop-row
invariant-loop-row l = l.self ≡ l.fn.self ++ flat_map row_bytes (take l.row-index l.row-items)
