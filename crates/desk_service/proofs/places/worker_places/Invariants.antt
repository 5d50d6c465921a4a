use Rattle.std.proofs.Common.{◌≡◌, ◌+◌, All, length}
use Rattle.turn_office.specs.Seats.{AreOf}
use Rattle.desk_service.proofs.places.worker_places.Given as goal

-- the seats that are left are of the office, and as many as were taken are places
abbrev pub invariant-loop : goal.invariant-loop
invariant-loop g l = record {
  own : AreOf l.site.office.now.id l.seats.items;
  left : length l.seats.items + l.counter ≡ length l.fn.seats.items;
  all : length l.places.items ≡ l.counter;
  office : All (λ place. place.seat.office ≡ l.site.office.now.id) l.places.items;
}
