-- How forms are linked in a deck that stands alone at a base.
use Rattle.std.specs.Prelude.{ℕ, ◌+◌, List, Option, Some, ℤ, pos, ◌+ℤ◌, unwrap_or, if◌then◌else◌}
use Rattle.definitions.specs.{Blocks.is_common, Coding.coded_in, Forms.{Part, Relocation, Added}, Lengths.{BlockRow, base_in}, StatementItems.part_value, Words.Linking}

-- where a block stands: a common one at 0, any other behind the base
abbrev pub alone_base : List BlockRow → ℕ → List ℕ → ℕ
alone_base rows base name = if is_common name then 0 else base + base_in name rows

-- what a block or an external is worth; an external is 0
abbrev pub alone_part : List BlockRow → ℕ → Option Part → ℤ
alone_part rows base part = part_value (λ name. pos (alone_base rows base name)) (λ name. pos 0) part

-- the bits of a form
abbrev pub alone_linking : List BlockRow → ℕ → Linking
alone_linking rows base width form = unwrap_or (coded_in width (form.number +ℤ alone_part rows base form.part)) 0

-- a block or an external that is added
abbrev pub alone_relocation : List BlockRow → ℕ → Relocation → ℤ
alone_relocation rows base relocation = alone_part rows base (Some (Added relocation))
