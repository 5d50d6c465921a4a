-- What a worker makes of a seat, and what a subscriber hears of that (ours).
use Rattle.std.specs.Prelude.{◌≡◌, ℕ, List, ◌++◌, All}
use mathlib.Core.List.{IsPrefix}
use Rattle.turn_office.specs.Histories.{entries_by}
use Rattle.desk_core.specs.Runs.{History}
use Rattle.deck_workers.specs.{Rounds.{Round, IsRound, entries_of, entries_in}, Subscribers.{HearsOf, HearsAll}}

-- what a seat had seen begins what it has seen now, and its calls since have these entries
pub record Calls (number : ℕ) (entries seen now : History) : Type 0 where
  pub begins : IsPrefix seen now
  pub calls : entries_by number now ≡ entries_by number seen ++ entries

module _ {S : Type 0} (hears : S → ℕ → S → Type 0) where
  -- a seat made one round, of which the subscriber heard
  pub record MakesRound (number : ℕ) (seen now : History) (old new : S) : Type 0 where
    pub round : Round
    pub is_round : IsRound round
    pub made : Calls number (entries_of number round) seen now
    pub heard : HearsOf hears round old new

  -- a seat worked: its calls since are those of rounds, of all of which the subscriber heard
  pub record Works (number : ℕ) (seen now : History) (old new : S) : Type 0 where
    pub rounds : List Round
    pub are_rounds : All IsRound rounds
    pub made : Calls number (entries_in number rounds) seen now
    pub heard : HearsAll hears old rounds new
