use Rattle.std.proofs.Common.{◌≡◌, ◌+◌, All, length, map}
use Rattle.desk_service.specs.{Connections.rights_of, Seating.{AreForSessions, IsServedFor}}
use Rattle.turn_office.specs.Seats.{AreOf}
use Rattle.desk_service.proofs.places.session_places.Given as goal

-- the seats that are left are of the office, and as many as were taken are places, each with its number
abbrev pub invariant-loop-number : goal.invariant-loop-number
invariant-loop-number g l = record {
  own : AreOf l.site.office.now.id l.seats.items;
  left : length l.seats.items + l.number ≡ length l.fn.seats.items;
  all : length l.places.items ≡ l.number;
  numbers : AreForSessions l.number (map (λ place. place.shelf.number) l.places.items) (map (λ place. place.serving.session) l.places.items) (map (λ place. place.desk.1.session) l.places.items);
  served : All (λ place. IsServedFor l.site.settings.now place.serving.session place.serving.rights place.serving.once place.shelf.folder) l.places.items;
  clients : All (λ place. rights_of place.clients ≡ place.serving.rights) l.places.items;
  office : All (λ place. place.desk.0.seat.office ≡ l.site.office.now.id) l.places.items;
}
