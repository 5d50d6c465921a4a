use Rattle.std.proofs.Common.{◌≡◌, take}
use Rattle.journal.specs.CheckSums.{sum_over}
use Rattle.journal.proofs.check_sums.sum_over.Given as goal

-- the sum of the bytes so far
abbrev pub invariant-loop-byte : goal.invariant-loop-byte
invariant-loop-byte l = l.sum ≡ sum_over l.fn.first (take l.byte-index l.bytes)
