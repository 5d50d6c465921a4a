-- What contracts see of an office, by its table, and of a seat, by its place at the table (ours).
use Rattle.std.specs.Prelude.{◌≡◌, ℕ, ◌≤◌, [], Option}
use Rattle.atomic_table.specs.{Seated.TableId, declared.shared.Seat.Seat}
use Rattle.turn_office.specs.{declared.views.Chair.Chair, declared.views.View.View, declared.rule.Opening.Opening, Joins.Bells.most_seats, Rule.{IsFloor, at_rest, chair, seen_of}, Seats.{OfficeFacts, SeatFacts}}

-- an office, by its table
abbrev pub office_facts : {T : Type 0} → TableId → Opening T → OfficeFacts T
office_facts id key = record { id = id; seats = key.seats; first = key.first.value }

-- the office knows how many seats it has: 1 to 64
pub record IsOpen {T : Type 0} (seats : ℕ) (id : TableId) (key : Opening T) : Type 0 where
  pub floor : IsFloor id
  pub same : seats ≡ key.seats
  pub some : 1 ≤ seats
  pub few : seats ≤ 64

-- the number of a seat with what was seen under it
abbrev pub chair_of : {C R : Type 0} → SeatFacts C R → Chair C R
chair_of seat = chair seat.number seat.seen

module _ {S V : Type 0} where
  -- a place at the table of an office
  abbrev pub IsPlaceOf : TableId → Seat S V → Type 0
  IsPlaceOf id place = (place.table_id ≡ id) × IsFloor id

  -- the same place, of the same table
  abbrev pub IsSamePlace : Seat S V → Seat S V → Type 0
  IsSamePlace old new = (new.table_id ≡ old.table_id) × (new.id ≡ old.id)

module _ {T C R : Type 0} where
  -- a seat, by its place
  abbrev pub seat_facts : ℕ → Seat (Option T) (View T C R) → SeatFacts C R
  seat_facts number place = record { office = place.table_id; number = number; seen = seen_of place.me.0 }

  -- between two calls a seat is at rest, with its number, and has no slot
  abbrev pub IsSeated : ℕ → Seat (Option T) (View T C R) → Type 0
  IsSeated number place = place.me ≡ (at_rest number (seen_of place.me.0), [])
