-- The rule of an office's table, and what each step shows (ours).
use Rattle.std.specs.{Prelude.{◌≡◌, ◌≢◌, ℕ, ◌+◌, ◌%◌, ◌^◌, ◌<◌, ◌≤◌, ◌==◌, List, [], ◌∷◌, ◌++◌, map, length, Option, Some, ⊤, sum_by, count_by}, List.{AllByRecursion, range_with_len}}
use mathlib.Core.Option.{some}
use lib.ListN.{get_elem?}
use Rattle.atomic_table.specs.{Table.{State, Me, Step}, Seated.TableId}
use Rattle.turn_office.specs.{declared.history.Entry.Entry, declared.views.Chair.Chair, declared.views.View.View, declared.views.Stage.Stage, declared.views.Stage.TheVariants.{Idle, Waits, Serves}, Histories.{Leads, IsLegal, IsOfSeats, Continues, Answers}, Joins.Told.Told, Joins.Bells.most_seats, declared.bells.TheConstants.WORDS}

-- a number of the office, and the history that was seen under it
abbrev pub chair : {C R : Type 0} → ℕ → List (Entry C R) → Chair C R
chair number seen = record { number = number; seen = seen }

module _ {T C R : Type 0} where
  -- a seat's stage with its numbers
  abbrev pub view : Stage T → List (Chair C R) → View T C R
  view stage chairs = record { stage = stage; chairs = chairs }

  -- the same seat at another stage
  abbrev pub staged : Stage T → View T C R → View T C R
  staged stage v = view stage v.chairs

  -- a seat between two calls
  abbrev pub at_rest : ℕ → List (Entry C R) → View T C R
  at_rest number seen = view Idle (chair number seen ∷ [])

  -- a seat without a number, which does nothing any more
  abbrev pub nobody : View T C R
  nobody = view Idle []

  -- the seat that has all numbers before they are dealt
  abbrev pub undealt : ℕ → View T C R
  undealt seats = view Idle (map (λ n. chair n []) (range_with_len 0 seats))

  -- what is left when the first number is dealt
  abbrev pub rest_of : View T C R → View T C R
  rest_of v = view v.stage (elim v.chairs [ [] ↦ [] | (c ∷ cs) ↦ cs ])

  -- the new seat that the first number goes to
  abbrev pub first_of : View T C R → View T C R
  first_of v = view Idle (elim v.chairs [ [] ↦ [] | (c ∷ cs) ↦ c ∷ [] ])

  -- a seat that took in another's numbers
  abbrev pub both_of : View T C R → View T C R → View T C R
  both_of v w = view v.stage (w.chairs ++ v.chairs)

  -- the history that a seat with one number has seen
  abbrev pub seen_of : View T C R → List (Entry C R)
  seen_of v = elim v.chairs [ [] ↦ [] | (c ∷ cs) ↦ c.seen ]

  -- a seat that waits or serves has a ticket
  abbrev pub tickets_of : View T C R → ℕ
  tickets_of v = elim v.stage [ Idle ↦ 0 | (Waits t) ↦ 1 | (Serves d) ↦ 1 ]

  -- how often a seat has the number
  abbrev pub times : ℕ → View T C R → ℕ
  times n v = count_by (λ c. c.number == n) v.chairs

module _ {T C R : Type 0} (log : List (Entry C R)) (object : T) (out : ℕ) (holder : ℕ → ℕ) (seat : ℕ) where
  -- the tickets out are the numbers from the turns that have ended up, each with one seat, and a seat that serves has the first of them
  abbrev pub IsStage : Stage T → Type 0
  IsStage Idle = ⊤
  IsStage (Waits t) = (length log ≤ t) × (t < length log + out) × (holder t ≡ seat)
  IsStage (Serves d) = (d ≡ object) × (0 < out) × (holder (length log) ≡ seat)

module _ {T C R : Type 0} (seats : ℕ) (log : List (Entry C R)) (object : T) (out : ℕ) (holder : ℕ → ℕ) (seat : ℕ) where
  -- the history begins with what was seen under each number, and has no more entries of that number
  pub record Fits (v : View T C R) : Type 0 where
    pub stage : IsStage log object out holder seat v.stage
    pub seated : tickets_of v ≤ length v.chairs
    pub chairs : AllByRecursion (λ c. (c.number < seats) × Continues c.number c.seen log) v.chairs

-- nobody has the turn
abbrev pub NobodyServes : {T C R : Type 0} → List (View T C R) → Type 0
NobodyServes {T} {C} {R} views = (seat : ℕ) (v : View T C R) (d : T) → get_elem? views seat ≡ some v → v.stage ≢ Serves d

module _ {T C R : Type 0} (allowed : T → C → R → T → Type 0) (seats : ℕ) (first : T) where
  -- there is one legal history; the first two words count its entries and the tickets drawn, and the object after it is in the slot unless a seat serves
  pub record Kept (s : State (Option T) (View T C R)) : Type 0 where
    pub log : List (Entry C R)
    pub object : T
    pub out : ℕ
    pub holder : ℕ → ℕ
    pub bells : List ℕ
    pub few : seats ≤ most_seats
    pub leads : Leads allowed first log object
    pub of_seats : IsOfSeats seats log
    pub words : s.words ≡ (length log % 2 ^ 64) ∷ ((length log + out) % 2 ^ 64) ∷ bells
    pub homes : length s.homes ≡ 1
    pub at_home : NobodyServes s.views → s.homes ≡ some (Some object) ∷ []
    pub tickets : sum_by tickets_of s.views ≡ out
    pub numbers : sum_by (λ v. length v.chairs) s.views ≡ seats
    pub apart : (n : ℕ) → sum_by (times n) s.views ≤ 1
    pub each : (seat : ℕ) (v : View T C R) → get_elem? s.views seat ≡ some v → Fits seats log object out holder seat v

-- what a step is: the word, the operands and the number of slots
abbrev pub At : Type 0 → Type 0
At T = Step (Option T)

-- a seat of the table: its view, and the slot if it has it
abbrev pub Standing : Type 0 → Type 0 → Type 0 → Type 0
Standing T C R = Me (Option T) (View T C R)

module _ {T C R : Type 0} where
  -- the seat has the ticket that it found
  abbrev pub HasDrawn : ℕ → Standing T C R → Standing T C R → Type 0
  HasDrawn found me after = (t : ℕ) × (found ≡ t % 2 ^ 64) × (after ≡ (staged (Waits t) me.0, me.1))

  -- the seat waits for the ticket
  abbrev pub WaitsFor : ℕ → View T C R → Type 0
  WaitsFor ticket v = (t : ℕ) × (v.stage ≡ Waits t) × (ticket ≡ t % 2 ^ 64)

  -- the seat has the turn, and with it the slot
  abbrev pub HasTurn : Standing T C R → Standing T C R → Type 0
  HasTurn me after = (d : T) × (after ≡ (staged (Serves d) me.0, (0, Some d) ∷ me.1))

  -- kind 2 shows that a ticket was drawn
  abbrev pub drew : At T → Standing T C R → ℕ → Standing T C R → Type 0
  drew at me found after = HasDrawn found me after

  -- kind 9 shows nothing
  abbrev pub rang : At T → Standing T C R → ℕ → Standing T C R → Type 0
  rang at me found after = after ≡ me

  -- kind 3 shows a waiting seat that the turn is its own, or nothing
  abbrev pub looked : At T → Standing T C R → ℕ → Standing T C R → Type 0
  looked at me found after = (t : ℕ) → me.0.stage ≡ Waits t → (found ≡ t % 2 ^ 64 → HasTurn me after) × (found ≢ t % 2 ^ 64 → after ≡ me)

module _ {T C R : Type 0} (allowed : T → C → R → T → Type 0) where
  -- the seat has the turn, and the object in its slot is one that this call with this reply may leave
  pub record CanEnd (call : C) (reply : R) (number : ℕ) (seen : List (Entry C R)) (me : Standing T C R) : Type 0 where
    pub before : T
    pub after : T
    pub stands : me ≡ (view (Serves before) (chair number seen ∷ []), (0, Some after) ∷ [])
    pub steps : allowed before call reply after

  -- the seat is at rest again, and has seen the history that ends with its call
  pub record HasEnded (told : Told T C R) (call : C) (reply : R) (number : ℕ) (seen : List (Entry C R)) (after : Standing T C R) : Type 0 where
    pub log : List (Entry C R)
    pub rests : after ≡ (at_rest number log, [])
    pub answers : Answers allowed told.seats told.first number call reply seen log

  -- kind 4 shows what the seat has then seen, by the call and the reply that it was given
  abbrev pub gave : Option (Told T C R) → At T → Standing T C R → ℕ → Standing T C R → Type 0
  gave said at me found after = (told : Told T C R) (call : C) (reply : R) (number : ℕ) (seen : List (Entry C R)) → said ≡ Some told → told.made ≡ Some (call, reply)
      → me.0.chairs ≡ chair number seen ∷ [] → HasEnded told call reply number seen after

  -- the seat has seen a legal history under each of its numbers
  pub record HasLearned (told : Told T C R) (me after : Standing T C R) : Type 0 where
    pub log : List (Entry C R)
    pub legal : IsLegal allowed told.seats told.first log
    pub continues : AllByRecursion (λ c. Continues c.number c.seen log) me.0.chairs
    pub rests : after ≡ (view me.0.stage (map (λ c. chair c.number log) me.0.chairs), me.1)

  -- kind 6 shows that the history so far was seen
  abbrev pub learned : Option (Told T C R) → At T → Standing T C R → ℕ → Standing T C R → Type 0
  learned said at me found after = (told : Told T C R) → said ≡ Some told → HasLearned told me after

  -- a legal history leads to the last state, begins with what was seen under each number, and has no more entries of it
  pub record Ends (seats : ℕ) (first : T) (chairs : List (Chair C R)) (last : T) : Type 0 where
    pub log : List (Entry C R)
    pub leads : Leads allowed first log last
    pub of_seats : IsOfSeats seats log
    pub each : AllByRecursion (λ c. Continues c.number c.seen log) chairs

-- the table of an office: the two counts and a bell for each ticket that can be out, and the slot
abbrev pub IsFloor : TableId → Type 0
IsFloor id = (id.words ≡ WORDS) × (id.slots ≡ 1)
