use Rattle.std.proofs.Common.{◌≡◌, ◌+◌, drop}
use Rattle.cards.specs.Counts.{fault_from}
use Rattle.cards.proofs.faults.fault_from.Given as goal

abbrev pub invariant-loop-place : goal.invariant-loop-place
invariant-loop-place l = fault_from 1 l.count l.edits ≡ fault_from (l.place + 1) l.left (drop l.place l.edits)
