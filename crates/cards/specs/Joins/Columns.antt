-- How a card lies in memory: its columns, and blanks behind them.
use Rattle.std.specs.Prelude.{ℕ, ◌≡◌, ◌≤◌, List, take}
use Rattle.definitions.specs.Cards.{padded}

pub record IsPadded (len : ℕ) (columns : List ℕ) : Type 0 where
  pub within : len ≤ 80
  pub blank_behind : columns ≡ padded 80 (take len columns)
