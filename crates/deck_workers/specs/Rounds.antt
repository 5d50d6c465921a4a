-- What one who works for a desk asks of it (ours): rounds of a claim each, with one call that ends what the claim gave.
use Rattle.std.specs.{Prelude.{◌≡◌, ℕ, List, [], ◌∷◌, Option, Some, None}, List.flat_map}
use Rattle.turn_office.specs.Histories.{entry}
use Rattle.deck_workers.specs.{Joins.Language.{Claim, DeliverDeck, Publish, GiveUp, Call, Do, Reply, DeckJob, LinkJob}, declared.jobs.Job.Job, declared.made.Made.Made, Jobs.MayMake}
use Rattle.desk_core.specs.Runs.{History}
use Rattle.deck_workers.specs.declared.jobs.Job.TheVariants as job
use Rattle.deck_workers.specs.declared.made.Made.TheVariants as made

-- the job that a reply gives, if it gives one
abbrev pub job_in : Reply → Option Job
job_in (DeckJob work) = Some (job.Deck work)
job_in (LinkJob work) = Some (job.Link work)
job_in _ = None

-- the call that ends a job: a deck is delivered, the desk is to publish what a link job is for, or the lease of a lost job is given up
abbrev pub call_of : Made → Call
call_of (made.Deck done) = Do (DeliverDeck done)
call_of (made.Link lease publication) = Do (Publish lease)
call_of (made.Lost lease fault) = Do (GiveUp lease)

-- the version of the publication that was made, if one was
abbrev pub published_in : Made → Option ℕ
published_in (made.Deck done) = None
published_in (made.Link lease publication) = Some publication.version
published_in (made.Lost lease fault) = None

-- a round: a claim with a reply that gives no job; or one that gives a job, what was made of it, and the reply to the call that ends it
pub data Round : Type 0 where
  Resting : Reply → Round
  Working : Reply → Made → Reply → Round

-- a claim gave no job; or it gave one, and this may be made of it
abbrev pub IsRound : Round → Type 0
IsRound (Resting claimed) = job_in claimed ≡ None
IsRound (Working claimed result answered) = (given : Job) × (job_in claimed ≡ Some given) × MayMake given result

-- the entries of a round, by a seat
abbrev pub entries_of : ℕ → Round → History
entries_of number (Resting claimed) = entry number (Do Claim) claimed ∷ []
entries_of number (Working claimed result answered) = entry number (Do Claim) claimed ∷ entry number (call_of result) answered ∷ []

-- the entries of rounds, one behind the other
abbrev pub entries_in : ℕ → List Round → History
entries_in number rounds = flat_map (entries_of number) rounds
