-- The keeper takes in the numbers of a list of seats, from the last to the first, and stands for all of them at the end.
use Rattle.std.{proofs.Common.{◌≡◌, ℕ, List, [], ◌∷◌, ◌++◌, map, sym, ap, ◌∙◌, subst, Option, Some, append_assoc}, proofs.lemmas.List.map-append, proofs.lemmas.List.Elements.{All-pop, All-from_recursion}, specs.List.AllByRecursion}
use Rattle.atomic_table.specs.{Seated.TableId, declared.shared.Seat.Seat}
use Rattle.turn_office.specs.{declared.views.Chair.Chair, declared.views.View.View, declared.views.Stage.TheVariants.Idle, Histories.Continues, Rule.{Standing, Ends, view, both_of}, Boards.{seat_facts, chair_of, IsSeated}, Seats.{SeatFacts, AreOf, Closes}}

-- the keeper is idle, and its numbers are all but those of the list
pub record Gathers {T C R : Type 0} (all : List (Chair C R)) (list : List (SeatFacts C R)) (keeper : Standing T C R) : Type 0 where
  pub chairs : List (Chair C R)
  pub holds : keeper ≡ (view Idle chairs, [])
  pub others : map chair_of list ++ chairs ≡ all

module _ {C R : Type 0} where
  -- what holds of each seat's number with its history holds of the seats
  each_seat : (P : Chair C R → Type 0) (list : List (SeatFacts C R)) → AllByRecursion P (map chair_of list) → AllByRecursion (λ seat. P (chair_of seat)) list
  each_seat P [] h = tt
  each_seat P (seat ∷ list) h = (h.0, each_seat P list h.1)

  -- the numbers of a list are those of its front, and the last
  chairs_last : (list front : List (SeatFacts C R)) (seat : SeatFacts C R) → list ≡ front ++ seat ∷ [] → map chair_of list ≡ map chair_of front ++ chair_of seat ∷ []
  chairs_last list front seat is = ap (map chair_of) is ∙ map-append chair_of front (seat ∷ [])

  -- the front of a list, and its last seat, are of the office that the list is of
  pub of_last : (id : TableId) (list front : List (SeatFacts C R)) (seat : SeatFacts C R) → list ≡ front ++ seat ∷ [] → AreOf id list → AreOf id front × (seat.office ≡ id)
  of_last id list front seat is own = All-pop (λ s. s.office ≡ id) list front (Some seat) is own

module _ {T C R : Type 0} where
  -- a seat at rest has the one number that contracts see
  rests_with : (n : ℕ) (place : Seat (Option T) (View T C R)) (seat : SeatFacts C R) → seat_facts n place ≡ seat → IsSeated n place → place.me ≡ (view Idle (chair_of seat ∷ []), [])
  rests_with n place seat facts rests = rests ∙ ap (λ s. (view Idle (chair_of s ∷ []), [])) facts

  -- the last seat of the list begins as the keeper
  pub begins : (n : ℕ) (place : Seat (Option T) (View T C R)) (list front : List (SeatFacts C R)) (seat : SeatFacts C R) → seat_facts n place ≡ seat → IsSeated n place → list ≡ front ++ seat ∷ []
      → Gathers (map chair_of list) front place.me
  begins n place list front seat facts rests is = record { chairs = chair_of seat ∷ []; holds = rests_with n place seat facts rests; others = sym (chairs_last list front seat is) }

  -- the keeper takes in the last seat of the list
  pub goes_on : (n : ℕ) (place : Seat (Option T) (View T C R)) (all : List (Chair C R)) (list front : List (SeatFacts C R)) (seat : SeatFacts C R) (keeper after : Standing T C R) → seat_facts n place ≡ seat → IsSeated n place
      → list ≡ front ++ seat ∷ [] → Gathers all list keeper → after ≡ (both_of keeper.0 place.me.0, keeper.1) → Gathers all front after
  goes_on n place all list front seat keeper after facts rests is had now = let last = rests_with n place seat facts rests in record {
    chairs = chair_of seat ∷ had.chairs;
    holds = now ∙ (λ i. (both_of (had.holds i).0 (last i).0, (had.holds i).1));
    others = sym (append_assoc (map chair_of front) (chair_of seat ∷ []) had.chairs) ∙ (ap (λ cs. cs ++ had.chairs) (sym (chairs_last list front seat is)) ∙ had.others);
  }

  -- where the list is empty, the keeper has all numbers
  pub has_all : (all : List (Chair C R)) (list : List (SeatFacts C R)) (keeper : Standing T C R) → list ≡ [] → Gathers all list keeper → keeper ≡ (view Idle all, [])
  has_all all list keeper empty had = had.holds ∙ ap (λ cs. (view Idle cs, [])) (ap (λ xs. map chair_of xs ++ had.chairs) (sym empty) ∙ had.others)

module _ {T C R : Type 0} (allowed : T → C → R → T → Type 0) (seats : ℕ) (first : T) where
  -- what the keeper's end says of its numbers, it says of the seats
  pub ends_all : (list : List (SeatFacts C R)) (keeper : Standing T C R) (object : T) → keeper ≡ (view Idle (map chair_of list), []) → Ends allowed seats first keeper.0.chairs object → Closes allowed seats first list object
  ends_all list keeper object is ends = record {
    log = ends.log;
    leads = ends.leads;
    of_seats = ends.of_seats;
    each = All-from_recursion _ list (each_seat _ list (subst (λ m. AllByRecursion (λ c. Continues c.number c.seen ends.log) m.0.chairs) is ends.each));
  }
