-- What a job gives (ours): a function of the job, and one free choice.
use Rattle.std.specs.Prelude.{◌≡◌, ◌⊎◌, ℕ, ◌+◌, ◌^◌, ◌<◌, ◌≤◌, Bool, true, false, List, Option, Some, None}
use Rattle.statement_coder.specs.Meters.{CountsAtMost}
use Rattle.work_meter.specs.Counts.{Counts}
use Rattle.deck_workers.specs.{Joins.Language.{Card, Edit, statement_count, statements_sum, CountsInOrder, edits_fault, RecordFault, OutOfMemory, DeckWork, LinkWork, Start, FromRecord, FromCards}, declared.jobs.Job.Job, declared.made.Made.Made}
pub use Rattle.desk_core.specs.Making.{start_deck, start_cards, deck_edited, begun_deck, done_of}
use Rattle.deck_workers.specs.declared.jobs.Job.TheVariants as job
use Rattle.deck_workers.specs.declared.made.Made.TheVariants as made

-- what a deck job gives where nothing, or this, keeps its edits from being made
abbrev pub done_unless : DeckWork → Option RecordFault → Made
done_unless work None = made.Deck (done_of work)
done_unless work (Some fault) = made.Lost work.lease fault

-- what a deck job gives, where memory is found: it is lost with an edit that does not apply
abbrev pub deck_made : DeckWork → Made
deck_made work = done_unless work (edits_fault work.edits (start_cards work.start))

-- what a link job gives, where memory is found: its objects under its version
abbrev pub link_made : LinkWork → Made
link_made work = made.Link work.lease (record { version = work.version; decks = work.objects })

-- what a job gives; or it is lost for want of memory, where all its edits apply
abbrev pub MayMakeDeck : DeckWork → Made → Type 0
MayMakeDeck work result = (result ≡ deck_made work) ⊎ ((result ≡ made.Lost work.lease OutOfMemory) × (edits_fault work.edits (start_cards work.start) ≡ None))

abbrev pub MayMakeLink : LinkWork → Made → Type 0
MayMakeLink work result = (result ≡ link_made work) ⊎ (result ≡ made.Lost work.lease OutOfMemory)

abbrev pub MayMake : Job → Made → Type 0
MayMake (job.Deck work) result = MayMakeDeck work result
MayMake (job.Link work) result = MayMakeLink work result

-- how many statements are sized at most, and coded, in beginning a job: none with a record, those of the cards without one
abbrev pub start_bound : Start → ℕ
start_bound (FromRecord kept) = 0
start_bound (FromCards cards) = statement_count cards

-- how many in a deck job: those of each deck that one of its edits leaves, besides
abbrev pub deck_bound : DeckWork → ℕ
deck_bound work = start_bound work.start + statements_sum work.edits (begun_deck work).cards

-- how many in a job: a link sizes and codes nothing
abbrev pub job_bound : Job → ℕ
job_bound (job.Deck work) = deck_bound work
job_bound (job.Link work) = 0

-- how many in a job at least that is not lost: those of the cards that it begins with
abbrev pub job_least : Job → ℕ
job_least (job.Deck work) = start_bound work.start
job_least (job.Link work) = 0

-- so many, where something was made
abbrev pub if_made : Made → ℕ → ℕ
if_made (made.Deck done) count = count
if_made (made.Link lease publication) count = count
if_made (made.Lost lease fault) count = 0

-- neither count fell, and each rose by so many at least and at most; unless it may be at its greatest value
pub record CountsWithin (least most : ℕ) (old new : Counts) : Type 0 where
  pub few : CountsAtMost most old new
  pub sized_all : old.sized + most < 2 ^ 64 → old.sized + least ≤ new.sized
  pub coded_all : old.coded + most < 2 ^ 64 → old.coded + least ≤ new.coded

-- the counts of a job rise by those of its beginning alone, where that or an edit fails; else, behind these, by no more than the sum of what is due for its edits in order
abbrev pub CountsDue : Start → List Edit → List Card → Counts → Counts → Type 0
CountsDue start edits cards old new =
    CountsAtMost (start_bound start) old new
    ⊎ ((begun : Counts) × CountsAtMost (start_bound start) old begun × CountsInOrder edits cards begun new)

-- what a deck job counts
abbrev pub DeckCounts : DeckWork → Counts → Counts → Type 0
DeckCounts work old new = CountsDue work.start work.edits (begun_deck work).cards old new

-- what a job counts: a link job nothing
abbrev pub JobCounts : Job → Counts → Counts → Type 0
JobCounts (job.Deck work) old new = DeckCounts work old new
JobCounts (job.Link work) old new = new ≡ old

-- whether something was made
abbrev pub is_result : Made → Bool
is_result (made.Deck done) = true
is_result (made.Link lease publication) = true
is_result (made.Lost lease fault) = false

-- the lease of a job
abbrev pub lease_of : Job → ℕ
lease_of (job.Deck work) = work.lease
lease_of (job.Link work) = work.lease

-- the cards that a job begins with, where it is of a deck
abbrev pub cards_before : Job → Option (List Card)
cards_before (job.Deck work) = Some (start_cards work.start)
cards_before (job.Link work) = None
