-- What blocks and externals are worth once blocks have their places.
use Rattle.std.specs.Prelude.{List, Option, Some, ℤ, pos}
use Rattle.definitions.specs.{Forms.{Relocation, Part, Added}, Lengths.{BlockRow, base_in}, StatementItems.part_value}

-- a part of a form, where externals are 0
abbrev pub part_number : List BlockRow → Option Part → ℤ
part_number rows part = part_value (λ name. pos (base_in name rows)) (λ name. pos 0) part

-- a block or external that is added
abbrev pub relocation_number : List BlockRow → Relocation → ℤ
relocation_number rows relocation = part_number rows (Some (Added relocation))
