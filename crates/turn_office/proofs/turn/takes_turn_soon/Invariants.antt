use Rattle.std.proofs.Common.{◌≡◌}
use Rattle.turn_office.proofs.turn.takes_turn_soon.Given as goal

-- while it waits, the seat is as it was
abbrev pub invariant-loop : goal.invariant-loop
invariant-loop g l = record { table : l.place.table_id ≡ l.initial.place.table_id; id : l.place.id ≡ l.initial.place.id; me : l.place.me ≡ l.initial.place.me }
