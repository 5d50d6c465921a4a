use Rattle.std.proofs.Common.{ℕ, ◌≡◌, ◌≤◌, ◌+◌, min, length}
use Rattle.definitions.specs.Sizes.{bits_of}
use Rattle.statement_coder.proofs.sizes.field_bits.Given as goal

-- the bits counted so far, and those that are left
pub record Counted (sum left all : ℕ) : Type 0 where
  pub bits : min (sum + left) 10000000 ≡ min all 10000000
  pub within : sum ≤ 10000000

abbrev pub invariant-fields : goal.invariant-fields
invariant-fields l = Counted l.sum (bits_of l.rest) (bits_of l.fn.fields)

abbrev pub decreases-fields : goal.decreases-fields
decreases-fields l = length l.rest
