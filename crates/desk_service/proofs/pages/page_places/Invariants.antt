use Rattle.std.{proofs.Common.{◌≡◌, ◌+◌, All, length, map}, specs.List.range_with_len}
use Rattle.desk_service.specs.Seating.{IsPlaceOf}
use Rattle.turn_office.specs.Seats.{AreOf}
use Rattle.desk_service.proofs.pages.page_places.Given as goal

-- the seats that are left are of the office, and as many as were taken are places, each with its number behind the sessions'
abbrev pub invariant-loop-turn : goal.invariant-loop-turn
invariant-loop-turn g l = record {
  own : AreOf l.site.office.now.id l.seats.items;
  left : length l.seats.items + l.turn ≡ length l.fn.seats.items;
  all : length l.places.items ≡ l.turn;
  number : map (λ place. place.page.1.1.number) l.places.items ≡ range_with_len (l.site.settings.now.sessions + l.site.settings.now.readers) l.turn;
  ends : map (λ place. place.page.1.0.1.session) l.places.items ≡ range_with_len (l.site.settings.now.sessions + l.site.settings.now.readers) l.turn;
  served : All (λ place. IsPlaceOf l.site.settings.now l.site.office.now.id place.page.1.1.folder place.page.1.0.0.seat.office) l.places.items;
  port : All (λ place. place.page.0 ≡ l.door.port) l.places.items;
}
