use Rattle.std.proofs.Common.{◌≡◌}
use Rattle.desk_tests.proofs.offices.add_ones.Given as goal

-- the seat stays one of its office
abbrev pub invariant-loop : goal.invariant-loop
invariant-loop g l = l.seat.office ≡ l.initial.seat.office
