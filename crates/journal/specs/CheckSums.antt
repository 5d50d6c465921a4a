-- The check sum of a record: FNV-1a of 32 bits (Fowler, Noll and Vo).
use Rattle.std.specs.{Prelude.{ℕ, ◌*◌, ◌%◌, ◌^◌, List, fold}, Int.Bits.bit_xor}

-- the sum with one byte more
abbrev pub sum_after : ℕ → ℕ → ℕ
sum_after sum byte = bit_xor sum byte * 16777619 % 2 ^ 32

-- the sum with more bytes
abbrev pub sum_over : ℕ → List ℕ → ℕ
sum_over sum bytes = fold sum_after sum bytes

-- the sum of no bytes
abbrev pub first_sum : ℕ
first_sum = 2166136261

-- the check sum of some bytes
abbrev pub check_sum : List ℕ → ℕ
check_sum bytes = sum_over first_sum bytes
