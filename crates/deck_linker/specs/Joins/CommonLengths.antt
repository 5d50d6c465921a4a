-- Common blocks with their lengths, as a map keeps them.
pub use Rattle.use_blocks.specs.Joins.BlockLengths.{lengths_shown}
use Rattle.std.specs.Prelude.{ℕ, Option, Some, None, max}

-- the greater of two lengths, where there are two
abbrev pub widened : Option ℕ → ℕ → ℕ
widened None words = words
widened (Some length) words = max length words
