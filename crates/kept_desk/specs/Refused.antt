-- What a session that is refused leaves of a desk which it shares with others (ours): its seat goes on with what they did, and nothing that it did itself changes anything.
use Rattle.std.specs.Prelude.{◌≡◌, List, ◌++◌, All}
use Rattle.turn_office.specs.{declared.history.Entry.Entry, Histories.entries_by, Seats.SeatFacts}
use Rattle.desk_core.specs.{Desks.Desk, Runs.IsUnchanged, Steps.Steps, declared.calls.Call.Call, declared.replies.Reply.Reply}

-- a call with its reply leaves version, cards and publication, whatever the desk was
abbrev pub LeavesAll : Entry Call Reply → Type 0
LeavesAll entry = (desk next : Desk) → Steps desk entry.call entry.reply next → IsUnchanged desk next

-- what a seat has seen goes on, and each of its own calls behind leaves version, cards and publication
pub record ChangesNothing (old new : SeatFacts Call Reply) : Type 0 where
  pub same : new.number ≡ old.number
  pub behind : List (Entry Call Reply)
  pub seen : new.seen ≡ old.seen ++ behind
  pub left : All LeavesAll (entries_by old.number behind)
