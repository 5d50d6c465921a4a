use Rattle.std.proofs.Common.{◌≡◌}
use Rattle.measures.proofs.counting.count_from.Given as goal

-- the seat stays one of its office
abbrev pub invariant-loop : goal.invariant-loop
invariant-loop g l = l.seat.office ≡ l.initial.seat.office
