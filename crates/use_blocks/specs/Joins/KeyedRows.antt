-- The rows of a deck in a map: each block's stands under its name, that of the literals under none.
use Rattle.std.specs.{Prelude.{ℕ, ◌≡◌, ⊤, List, [], ◌∷◌, Option, Some, None, map, if◌then◌else◌}, Map.lookup, Option.{option_eq, option_map_or}}
use Rattle.definitions.specs.{Characters.same_text, Blocks.literals_block, Lengths.BlockRow}

-- a row, and what it stands under
abbrev pub KeyedRow : Type 0
KeyedRow = Option (List ℕ) × BlockRow

-- the rows of blocks
abbrev pub keyed_rows : List BlockRow → List KeyedRow
keyed_rows rows = map (λ (row : BlockRow). (Some row.name, row)) rows

-- a row before others stands under its name; that of the literals is the last
abbrev pub IsKeyed : Option (List ℕ) → BlockRow → List KeyedRow → Type 0
IsKeyed None row behind = (row.name ≡ literals_block) × (behind ≡ [])
IsKeyed (Some name) row behind = row.name ≡ name

-- each row does
abbrev pub AreKeyed : List KeyedRow → Type 0
AreKeyed [] = ⊤
AreKeyed (e ∷ es) = IsKeyed e.0 e.1 es × AreKeyed es

-- the base of a row that is found, or 0
abbrev pub base_of : Option BlockRow → ℕ
base_of found = option_map_or (λ (row : BlockRow). row.base) found 0

-- the base of the literals, where this is their name; else 0
abbrev pub literals_base : List ℕ → List KeyedRow → ℕ
literals_base name entries = if same_text name literals_block then base_of (lookup (option_eq same_text None) entries) else 0
