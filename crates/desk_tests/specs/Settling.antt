-- What one caller alone makes of a desk by claiming, running and delivering (ours).
use Rattle.std.specs.Prelude.{◌≡◌, ⊤, ℕ, ◌+◌, ◌<◌, List, [], ◌∷◌, ◌++◌, length, All, Option, Some, None, option_map}
use Rattle.work_meter.specs.Counts.{Counts}
use Rattle.definitions.specs.Build.{listing_of, image_of}
use Rattle.turn_office.specs.Histories.{Leads}
use Rattle.desk_core.specs.{Desks.{Desk, Publication, decks_of}, Steps.Steps, Runs.{History, Runs}}
use Rattle.desk_core.specs.declared.replies.Reply.TheVariants as reply
use Rattle.deck_workers.specs.{Joins.Language.{Reply, Refusal}, declared.jobs.Job.Job, Jobs.{job_bound, job_least, if_made, CountsWithin}, Rounds.{Round, Resting, Working, IsRound, job_in, entries_of, entries_in}}
use Rattle.desk_tests.specs.declared.settling.Settled.{Settled, TheVariants.{Idle, Refused, Waiting, Turns}}

-- the refusal that a reply shows, if it shows one
abbrev pub refusal_in : Reply → Option Refusal
refusal_in (reply.Refused refusal) = Some refusal
refusal_in _ = None

-- what a claim ends settling with, if it ends it: all is published, all that is due is out, or it is refused
abbrev pub end_of_claim : Reply → Option Settled
end_of_claim (reply.Idle version) = Some (Idle version)
end_of_claim reply.AllOut = Some Waiting
end_of_claim (reply.Refused refusal) = Some (Refused refusal)
end_of_claim _ = None

-- what a round ends settling with, if it ends it: a job ends it where the call that ends the job is refused
abbrev pub end_of : Round → Option Settled
end_of (Resting claimed) = end_of_claim claimed
end_of (Working claimed result answered) = option_map Refused (refusal_in answered)

-- a round after which there may be more to do
abbrev pub GoesOn : Round → Type 0
GoesOn round = IsRound round × (end_of round ≡ None)

-- as many rounds as there were turns; or fewer, and one more that ends it: each time a list of steps that the desk allows
pub data Settles (turns : ℕ) (first : Desk) (settled : Settled) (last : Desk) : Type 0 where
  used_up : (rounds : List Round) → All GoesOn rounds → length rounds ≡ turns → settled ≡ Turns → Leads Steps first (entries_in 0 rounds) last → Settles turns first settled last
  ended : (rounds : List Round) (round : Round) → All GoesOn rounds → length rounds < turns → IsRound round → end_of round ≡ Some settled →
      Leads Steps first (entries_in 0 rounds ++ entries_of 0 round) last → Settles turns first settled last

-- how many statements a job sizes at most, and codes; none where there is no job
abbrev pub bound_if_given : Option Job → ℕ
bound_if_given None = 0
bound_if_given (Some given) = job_bound given

-- how many it does at least, where it is not lost
abbrev pub least_if_given : Option Job → ℕ
least_if_given None = 0
least_if_given (Some given) = job_least given

-- how many a round does
abbrev pub round_bound : Round → ℕ
round_bound (Resting claimed) = 0
round_bound (Working claimed result answered) = bound_if_given (job_in claimed)

-- how many it does at least
abbrev pub round_least : Round → ℕ
round_least (Resting claimed) = 0
round_least (Working claimed result answered) = if_made result (least_if_given (job_in claimed))

-- how many rounds do together
abbrev pub rounds_bound : List Round → ℕ
rounds_bound [] = 0
rounds_bound (round ∷ rounds) = round_bound round + rounds_bound rounds

-- how many they do at least
abbrev pub rounds_least : List Round → ℕ
rounds_least [] = 0
rounds_least (round ∷ rounds) = round_least round + rounds_least rounds

-- the rounds of settling
abbrev pub rounds_in : {turns : ℕ} {first last : Desk} {settled : Settled} → Settles turns first settled last → List Round
rounds_in (used_up rounds go_on all is leads) = rounds
rounds_in (ended rounds round go_on less is_round end leads) = rounds ++ round ∷ []

-- settling, on a meter that counts what its jobs do
abbrev pub SettlesOn : ℕ → Desk → Settled → Desk → Counts → Counts → Type 0
SettlesOn turns first settled last old new = (settles : Settles turns first settled last) × CountsWithin (rounds_least (rounds_in settles)) (rounds_bound (rounds_in settles)) old new

-- a desk that is idle: its publication is of its version, and of its present decks where the first desk comes from a new one
pub record IsIdleAt (version : ℕ) (first desk : Desk) : Type 0 where
  pub version_is : desk.version ≡ version
  pub publication : Publication
  pub shown : desk.publication ≡ Some publication
  pub published_at : publication.version ≡ version
  pub decks_are : (begun : ℕ) (history : History) → Runs begun history first → publication.decks ≡ decks_of desk
  pub listing_is : (begun : ℕ) (history : History) → Runs begun history first → listing_of publication.decks ≡ listing_of (decks_of desk)
  pub image_is : (begun : ℕ) (history : History) → Runs begun history first → image_of publication.decks ≡ image_of (decks_of desk)

-- where settling ends idle, all is published
abbrev pub IsSettled : Desk → Settled → Desk → Type 0
IsSettled first (Idle version) desk = IsIdleAt version first desk
IsSettled first (Refused refusal) desk = ⊤
IsSettled first Waiting desk = ⊤
IsSettled first Turns desk = ⊤

-- one turn: a round that the desk allows, what it ends settling with, and a meter that counts what its job does
pub record IsTurn (first : Desk) (end : Option Settled) (last : Desk) (old new : Counts) : Type 0 where
  pub round : Round
  pub is_round : IsRound round
  pub end_is : end_of round ≡ end
  pub leads : Leads Steps first (entries_of 0 round) last
  pub counts : CountsWithin (round_least round) (round_bound round) old new
