-- What the calls of the ends that a session has at its service make of them (ours): each relation has the ends before, what is asked, what is answered, and the ends after.
use Rattle.std.specs.Prelude.{ℕ, List, Bool, Option, Result}
use Rattle.desk_core.specs.declared.{calls.Change.Change, replies.Refusal.Refusal}
use Rattle.journal.specs.declared.drafted.Drafted.{Drafted}
use Rattle.session_line.specs.declared.greetings.Connected.{Connected}
use Rattle.kept_desk.specs.declared.ends.Woken.{Woken}

pub record EndsRelations (E : Type 0) : Type 1 where
  -- a change, and what is known of its record, or why none may be made
  pub begins : E → Change → Result Drafted Refusal → E → Type 0
  -- the bell of the workers rings once
  pub rings : E → E → Type 0
  -- version and record, and whether the record is kept with all before it
  pub keeps : E → ℕ → List ℕ → Bool → E → Type 0
  -- the version that a session waits for, and how a sleep ended
  pub sleeps : E → ℕ → Woken → E → Type 0
  -- the name that the session gives, and the sessions that are connected
  pub lists : E → List ℕ → List Connected → E → Type 0
  -- the name by which the session asks from now on, or that it has given none
  pub names : E → Option (List ℕ) → E → Type 0
  -- the name by which it asks for changes
  pub who : E → List ℕ
