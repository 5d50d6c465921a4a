use Rattle.std.proofs.Common.{ℕ, ◌≡◌, ◌≤◌, ◌+◌, min, length}
use Rattle.definitions.specs.Sizes.{data_words}
use Rattle.statement_coder.proofs.sizes.con_words.Given as goal

-- the words counted so far, and those that are left
pub record Counted (sum left all : ℕ) : Type 0 where
  pub words : min (sum + left) 10000000 ≡ min all 10000000
  pub within : sum ≤ 10000000

abbrev pub invariant-words : goal.invariant-words
invariant-words l = Counted l.sum (data_words l.kind l.rest) (data_words l.kind l.fn.words)

abbrev pub decreases-words : goal.decreases-words
decreases-words l = length l.rest
