-- What a worker does behind a round, by what the round was and what its sleep gave (ours).
use Rattle.std.specs.Prelude.{ℕ, ◌*◌, Bool, true, false, ◌&&◌, not, min, Result, Ok, Err}
use Rattle.crossbeam_channel.specs.declared.err.RecvTimeoutError.{RecvTimeoutError, TheVariants.{Timeout, Disconnected}}
use Rattle.deck_workers.specs.{declared.bells.Bell.Bell, declared.bells.Next.Next, declared.bells.Next.TheVariants.{Claims, SleepsFor, SleepsUntilBell}, declared.bells.Round.Round, declared.bells.Round.TheVariants.{Delivered, GaveUp, NoJob}, Joins.Language.{Reply, Refused}, Jobs.is_result}
use Rattle.desk_core.specs.declared.replies.Refusal.TheVariants as refusal
use Rattle.deck_workers.specs.declared.bells.Bell.TheVariants as bell
use Rattle.deck_workers.specs.Rounds as rounds

-- a round with a job, which was delivered or given up
abbrev pub round_with_job : Bool → Round
round_with_job true = Delivered
round_with_job false = GaveUp

-- a round without a job, whose claim was refused or not
abbrev pub round_without_job : Bool → Round
round_without_job true = GaveUp
round_without_job false = NoJob

-- whether a reply shows want of memory
abbrev pub is_starved : Reply → Bool
is_starved (Refused refusal.OutOfMemory) = true
is_starved _ = false

-- whether something was made of a job, and the desk had the memory that it takes to publish
abbrev pub went_well : Bool → Reply → Bool
went_well is_made answered = is_made && not (is_starved answered)

-- whether a reply is a refusal
abbrev pub is_refused : Reply → Bool
is_refused (Refused refusal) = true
is_refused _ = false

-- what the round of a worker is shown as
abbrev pub told_as : rounds.Round → Round
told_as (rounds.Resting claimed) = round_without_job (is_refused claimed)
told_as (rounds.Working claimed result answered) = round_with_job (went_well (is_result result) answered)

-- what a worker does behind a round, where it sleeps for so many milliseconds if it does for a while
abbrev pub next_behind : Round → ℕ → Next
next_behind Delivered milliseconds = Claims
next_behind GaveUp milliseconds = SleepsFor milliseconds
next_behind NoJob milliseconds = SleepsUntilBell

-- for how many it sleeps the next time: from a tenth of a second on twice as long each time, up to a minute
abbrev pub patience_behind : Round → ℕ → ℕ
patience_behind Delivered milliseconds = 100
patience_behind GaveUp milliseconds = min (2 * milliseconds) 60000
patience_behind NoJob milliseconds = milliseconds

-- whether there may be work, by what a sleep gave: a bell that says so, or none in the time
abbrev pub may_work : Result Bell RecvTimeoutError → Bool
may_work (Ok bell.Work) = true
may_work (Ok bell.Stop) = false
may_work (Err Timeout) = true
may_work (Err Disconnected) = false
