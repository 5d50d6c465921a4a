-- What contracts see of an office and of a seat (ours).
use Rattle.std.specs.{Prelude.{◌≡◌, ℕ, ◌==◌, Bool, ◌&&◌, List, [], map, length, All}, List.{list_all, list_any, range_with_len}}
use Rattle.atomic_table.specs.Seated.{TableId}
use Rattle.turn_office.specs.{declared.history.Entry.Entry, Histories.{Continues, Leads, IsOfSeats}}

-- an office: which it is, how many seats it has, and the object's state when it was opened
pub record OfficeFacts (T : Type 0) : Type 0 where
  pub id : TableId
  pub seats : ℕ
  pub first : T

-- a seat: the office that it is of, its number there, and the history that it has seen
pub record SeatFacts (C R : Type 0) : Type 0 where
  pub office : TableId
  pub number : ℕ
  pub seen : List (Entry C R)

module _ {C R : Type 0} where
  -- the seats of a new office, which have seen nothing
  abbrev pub new_seats : TableId → ℕ → List (SeatFacts C R)
  new_seats office seats = map (λ n. record { office = office; number = n; seen = [] }) (range_with_len 0 seats)

  -- each of these seats is of the office
  abbrev pub AreOf : TableId → List (SeatFacts C R) → Type 0
  AreOf office list = All (λ seat. seat.office ≡ office) list

  -- the list has as many seats as the office, and every number of the office
  abbrev pub is_whole : ℕ → List (SeatFacts C R) → Bool
  is_whole seats list = (length list == seats) && list_all (λ n. list_any (λ seat. seat.number == n) list) (range_with_len 0 seats)

-- a legal history leads to the last state, begins with what each of these seats had seen, and has of each of them its calls alone
pub record Closes {T C R : Type 0} (allowed : T → C → R → T → Type 0) (seats : ℕ) (first : T) (list : List (SeatFacts C R)) (last : T) : Type 0 where
  pub log : List (Entry C R)
  pub leads : Leads allowed first log last
  pub of_seats : IsOfSeats seats log
  pub each : All (λ seat. Continues seat.number seat.seen log) list
