-- Who is connected (ours): the names of sessions by their numbers, none where nobody is, those that may edit first; and what who greets is shown of them.
use Rattle.std.specs.Prelude.{ℕ, ◌≡◌, ◌+◌, ◌==◌, List, [], ◌∷◌, ◌++◌, Option, Some, None, nat_lt, if◌then◌else◌}
use Rattle.session_line.specs.declared.{greetings.Connected.Connected, rights.Rights.Rights, rights.Rights.TheVariants.{Edits, Reads}}

-- the name of a session: the one of this number gives this
abbrev pub seated : ℕ → ℕ → List ℕ → Option (List ℕ) → Option (List ℕ)
seated at number name seat = if at == number then Some name else seat

-- how many sessions may edit, and the names of all that there may be
pub record Company : Type 0 where
  pub editors : ℕ
  pub seats : List (Option (List ℕ))

-- what the session of a number may do, where so many may edit
abbrev pub rights_at : ℕ → ℕ → Rights
rights_at editors number = if nat_lt number editors then Edits else Reads

-- a session of this number, if it is connected
abbrev pub listed_at : ℕ → ℕ → Option (List ℕ) → List Connected
listed_at editors at None = []
listed_at editors at (Some who) = record { number = at; who = who; rights = rights_at editors at } ∷ []

-- the sessions that are connected, numbered from here, where the one of a number gives this name
abbrev pub listed_from : ℕ → ℕ → ℕ → List ℕ → List (Option (List ℕ)) → List Connected
listed_from editors at number name [] = []
listed_from editors at number name (seat ∷ seats) = listed_at editors at (seated at number name seat) ++ listed_from editors (at + 1) number name seats

-- these are the sessions that are connected at some moment, where the one of a number gives this name
abbrev pub AreListed : ℕ → List ℕ → List Connected → Type 0
AreListed number name sessions = (company : Company) × (sessions ≡ listed_from company.editors 0 number name company.seats)
