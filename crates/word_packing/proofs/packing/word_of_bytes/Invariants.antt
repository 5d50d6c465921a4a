use Rattle.std.proofs.Common.{ℕ, List, ◌≡◌, ◌<◌, ◌*◌, ◌+◌, ◌^◌}
use Rattle.word_packing.specs.Packing.{digit_at, number_of}
use Rattle.word_packing.proofs.packing.word_of_bytes.Given as goal

-- the number of the digits so far
pub record Read (digits number : ℕ) (bytes : List ℕ) (word place : ℕ) : Type 0 where
  pub whole : word ≡ number_of (λ k. digit_at 2 bytes (number * digits + k)) place
  pub small : word < 16 ^ place

abbrev pub invariant-loop-place : goal.invariant-loop-place
invariant-loop-place l = Read l.digits l.number l.bytes l.word l.place
