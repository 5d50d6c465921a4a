-- What a file has, known by its length and its digest (FIPS 180-4), and how much is read of a file to compare it (ours).
use Rattle.std.specs.Prelude.{ℕ, ◌≡◌, ◌+◌, ◌-◌, ◌^◌, ◌==◌, ◌&&◌, Bool, List, length, min, take}
use Rattle.definitions.specs.Characters.{same_text}
use Rattle.sha2.specs.{Sha256.sha256, Hashers.Holds256}
use Rattle.deck_files.specs.declared.file_sums.{FileSum.FileSum, Summing.Summing}

-- the sum of a file that has these bytes
abbrev pub sum_of : List ℕ → FileSum
sum_of bytes = record { length = length bytes; digest = sha256 bytes }

-- whether two sums are the same
abbrev pub is_same_sum : FileSum → FileSum → Bool
is_same_sum sum other = (sum.length == other.length) && same_text sum.digest other.digest

-- how much is read of a file that may have this sum: one byte more than it would have, as far as bytes are counted
abbrev pub most_read : FileSum → ℕ
most_read sum = min (sum.length + 1) (2 ^ 64 - 1)

-- whether what is read of a file has this sum
abbrev pub has_just : FileSum → List ℕ → Bool
has_just sum bytes = is_same_sum (sum_of (take (most_read sum) bytes)) sum

-- a sum under way is that of these bytes
abbrev pub Sums : Summing → List ℕ → Type 0
Sums summing bytes = (summing.length ≡ length bytes) × Holds256 summing.hasher bytes
