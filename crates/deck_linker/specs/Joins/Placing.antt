-- What common blocks, their names and the parts of a form are, step by step.
use Rattle.std.specs.{Prelude.{ℕ, List, Option, Some, None, map, ℤ, pos, if◌then◌else◌}, Option.option_map_or}
use Rattle.definitions.specs.{Characters.same_text, Forms.{Part, Added, Subtracted, Relocation, Block, External}, Lengths.BlockLength, Layout.Common}

-- the external of a part, if it has one
abbrev pub external_of : Option Part → Option (List ℕ)
external_of None = None
external_of (Some (Added (Block name))) = None
external_of (Some (Added (External name))) = Some name
external_of (Some (Subtracted (Block name))) = None
external_of (Some (Subtracted (External name))) = Some name

-- what the external of a part is worth, or 0 where it has none
abbrev pub external_in : (List ℕ → ℤ) → Option Part → ℤ
external_in externals part = option_map_or externals (external_of part) (pos 0)

-- what a relocation is worth, from bases of blocks and the value of an external
abbrev pub worth : (List ℕ → ℤ) → ℤ → Relocation → ℤ
worth block external (Block name) = block name
worth block external (External name) = external

-- the names of lengths
abbrev pub names_of_lengths : List BlockLength → List (List ℕ)
names_of_lengths blocks = map (λ (block : BlockLength). block.name) blocks

-- the names of common blocks
abbrev pub names_of_commons : List Common → List (List ℕ)
names_of_commons commons = map (λ (common : Common). common.name) commons

-- the value of a name where one entry stands alone
abbrev pub entry_alone : List ℕ → List ℕ → ℤ → Option ℤ
entry_alone other name value = if same_text other name then Some value else None
