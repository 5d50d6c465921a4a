-- Histories of an object that seats step in turns (ours). A history has an entry for each turn, in the order of the turns.
use Rattle.std.specs.Prelude.{◌≡◌, ℕ, ◌==◌, ◌<◌, List, [], ◌∷◌, ◌++◌, All, filter}
use mathlib.Core.List.{IsPrefix}
use Rattle.turn_office.specs.declared.history.Entry.{Entry}

module _ {C R : Type 0} where
  -- the entry of a seat's call, with the reply that it got
  abbrev pub entry : ℕ → C → R → Entry C R
  entry number call reply = record { by = number; call = call; reply = reply }

  -- the entries of one seat, in order
  abbrev pub entries_by : ℕ → List (Entry C R) → List (Entry C R)
  entries_by number log = filter (λ e. e.by == number) log

  -- each entry is of one of the first so many seats
  abbrev pub IsOfSeats : ℕ → List (Entry C R) → Type 0
  IsOfSeats seats log = All (λ e. e.by < seats) log

  -- the history begins with what a seat had seen, and goes on without an entry of this seat
  pub record Continues (number : ℕ) (seen log : List (Entry C R)) : Type 0 where
    pub begins : IsPrefix seen log
    pub silent : entries_by number log ≡ entries_by number seen

module _ {T C R : Type 0} (allowed : T → C → R → T → Type 0) where
  -- each entry is a step that the object may make, from the first state to the last
  abbrev pub Leads : T → List (Entry C R) → T → Type 0
  Leads first [] last = first ≡ last
  Leads first (e ∷ es) last = (next : T) × allowed first e.call e.reply next × Leads next es last

  -- a legal history: it leads from the first state to some state, and its entries are of the office's seats
  pub record IsLegal (seats : ℕ) (first : T) (log : List (Entry C R)) : Type 0 where
    pub last : T
    pub leads : Leads first log last
    pub of_seats : IsOfSeats seats log

  -- a legal history begins with what the seat had seen, goes on without an entry of this seat, and ends with this call and its reply
  pub record Answers (seats : ℕ) (first : T) (number : ℕ) (call : C) (reply : R) (seen log : List (Entry C R)) : Type 0 where
    pub between : List (Entry C R)
    pub ends : log ≡ (seen ++ between) ++ entry number call reply ∷ []
    pub silent : entries_by number between ≡ []
    pub legal : IsLegal seats first log
