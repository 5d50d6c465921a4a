-- The numbers of a new office, and how they are dealt.
use Rattle.std.{proofs.Common.{◌≡◌, ℕ, zero, suc, ◌+◌, ◌-◌, ◌<◌, ◌≤◌, ◌==◌, List, [], ◌∷◌, ◌++◌, map, sym, refl, ap, ◌∙◌, arith, Option, cond, count_by, eq-eqb, ne_eqb}, proofs.lemmas.List.Sums.sum_by-cons, proofs.lemmas.List.Elements.All-map, proofs.lemmas.List.FromFn.map-range_with_len_more, specs.List.{AllByRecursion, range_with_len}}
use mathlib.Core.Logic.{dite}
use native.Mathlib.Decide.{ℕ_discrete}
use Rattle.atomic_table.specs.{Seated.TableId, declared.shared.Seat.Seat}
use Rattle.turn_office.specs.{declared.views.Chair.Chair, declared.views.View.View, declared.views.Stage.TheVariants.Idle, Boards.seat_facts, Histories.Continues, Rule.{Standing, view, chair, at_rest, rest_of, first_of, seen_of}, Seats.{SeatFacts, AreOf, new_seats}}

-- a row of numbers is its first with those after it
range_first : (a b : ℕ) → a < b → range_with_len a (b - a) ≡ a ∷ range_with_len (a + 1) (b - (a + 1))
range_first a b near = let e : b - a ≡ suc (b - (a + 1)) = omega arith in ap (range_with_len a) e

module _ (C R : Type 0) where
  -- the chairs of a row of numbers, under which nothing was seen
  abbrev new_chairs : ℕ → ℕ → List (Chair C R)
  new_chairs first count = map (λ n. chair n []) (range_with_len first count)

  -- each number of a row is of the office, and its empty history begins the empty one
  pub new_fit : (seats first count : ℕ) → first + count ≤ seats → AllByRecursion (λ c. (c.number < seats) × Continues c.number c.seen []) (new_chairs first count)
  new_fit seats first zero near = tt
  new_fit seats first (suc count) near = ((omega arith, record { begins = ([], refl); silent = refl }), new_fit seats (first + 1) count (omega arith))

  -- how often a number is in a row
  abbrev in_row : ℕ → ℕ → ℕ → ℕ
  in_row n first count = count_by (λ c. c.number == n) (new_chairs first count)

  -- a number is in a row where it is the first, and where it is in the rest
  in_row_first : (n first count : ℕ) → in_row n first (suc count) ≡ cond (first == n) 1 0 + in_row n (first + 1) count
  in_row_first n first count = sum_by-cons _ (chair first []) (new_chairs (first + 1) count)

  -- a number before a row is not in it
  none_before : (n first count : ℕ) → n < first → in_row n first count ≡ 0
  none_before n first zero near = refl
  none_before n first (suc count) near = let other = ap (λ b. cond {A = ℕ} b 1 0) (ne_eqb first n (λ e. omega arith)) in omega (arith, in_row_first n first count, none_before n (first + 1) count (omega arith))

  -- a row has no number twice
  pub once : (n first count : ℕ) → in_row n first count ≤ 1
  once n first zero = omega arith
  once n first (suc count) = dite (ℕ_discrete first n)
      (λ e. let here = ap (λ b. cond {A = ℕ} b 1 0) (eq-eqb first n e) in omega (arith, in_row_first n first count, none_before n (first + 1) count (omega arith)))
      (λ e. let other = ap (λ b. cond {A = ℕ} b 1 0) (ne_eqb first n e) in omega (arith, in_row_first n first count, once n (first + 1) count))

module _ {T C R : Type 0} where
  -- the view of a seat that has the numbers from one on, before they are dealt
  abbrev pub left_from : ℕ → ℕ → View T C R
  left_from n seats = view Idle (new_chairs C R n (seats - n))

  -- a new seat that the next number is dealt to is at rest
  pub dealt_next : (n seats : ℕ) (me place : Standing T C R) → n < seats → me ≡ (left_from n seats, []) → place ≡ (first_of me.0, []) → place ≡ (at_rest n [], [])
  dealt_next n seats me place near was is = is ∙ (ap (λ m. (first_of m.0, [])) was ∙ ap (λ ns. (first_of (view Idle (map (λ k. chair k []) ns)), [])) (range_first n seats near))

  -- the dealer keeps the numbers after the one that it deals
  pub dealt_rest : (n seats : ℕ) (me after : Standing T C R) → n < seats → me ≡ (left_from n seats, []) → after ≡ (rest_of me.0, me.1) → after ≡ (left_from (n + 1) seats, [])
  dealt_rest n seats me after near was is = is ∙ (ap (λ m. (rest_of m.0, m.1)) was ∙ ap (λ ns. (rest_of (view Idle (map (λ k. chair k []) ns)), [])) (range_first n seats near))

  -- one more seat of an office is dealt
  pub dealt_more : (id : TableId) (n : ℕ) (before after : List (SeatFacts C R)) (place : Seat (Option T) (View T C R)) → place.table_id ≡ id → place.me ≡ (at_rest n [], [])
      → before ≡ new_seats id n → after ≡ before ++ seat_facts n place ∷ [] → after ≡ new_seats id (n + 1)
  dealt_more id n before after place own rests was is = is ∙ ((λ i. was i ++ record { office = own i; number = n; seen = seen_of (rests i).0 } ∷ []) ∙ sym (map-range_with_len_more _ 0 n n (omega arith)))

-- the seats of a new office are of it
pub new_are_of : {C R : Type 0} (id : TableId) (seats : ℕ) → AreOf id (new_seats {C = C} {R = R} id seats)
new_are_of id seats = All-map (λ seat. seat.office ≡ id) _ (range_with_len 0 seats) (λ k d less. refl)
