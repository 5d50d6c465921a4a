-- The words that each block reached, as the code changes them (ours).
use Rattle.std.specs.{Prelude.{ℕ, List, Option, Some, None, Bool, max, map, if◌then◌else◌}, List.list_any}
use Rattle.definitions.specs.{Characters.same_text, Settled.{BlockChange, NoChange, Opens, Closes}, Lengths.BlockLength}

-- the lengths that stand under names in a map
abbrev pub lengths_shown : List (List ℕ × ℕ) → List BlockLength
lengths_shown entries = map (λ entry. record { name = entry.0; words = entry.1 }) entries

-- the names of the blocks
abbrev pub block_names : List BlockLength → List (List ℕ)
block_names blocks = map (λ (block : BlockLength). block.name) blocks

-- whether one of the blocks has this name
abbrev pub has_name : List ℕ → List BlockLength → Bool
has_name name blocks = list_any (λ (block : BlockLength). same_text name block.name) blocks

-- the block that a change opens, if it opens one
abbrev pub opened_by : BlockChange → Option (List ℕ)
opened_by NoChange = None
opened_by (Opens name) = Some name
opened_by Closes = None

-- a block, which reaches so many words where it has this name
abbrev pub reaching : List ℕ → ℕ → BlockLength → BlockLength
reaching name words block = record block { words = max (if same_text name block.name then words else 0) block.words }
