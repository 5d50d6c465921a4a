-- The calls of a desk, its replies and its refusals, as the code has them. Declares nothing.
pub use Rattle.desk_core.specs.declared.calls.Done.{Done}
pub use Rattle.session_commands.specs.declared.words.Seen.{Seen}
pub use Rattle.session_commands.specs.declared.words.Seen.TheVariants.{Exactly, Since}
pub use Rattle.desk_core.specs.declared.calls.Edits.{Edits}
pub use Rattle.desk_core.specs.declared.calls.Edits.TheVariants.{One, Batch}
pub use Rattle.desk_core.specs.declared.calls.Change.{Change}
pub use Rattle.desk_core.specs.declared.calls.Change.TheVariants.{AddDeck, PutDeck, DropDeck, EditDeck, Undo}
pub use Rattle.desk_core.specs.declared.calls.Question.{Question}
pub use Rattle.desk_core.specs.declared.calls.Question.TheVariants.{Changes, CardsAt, Cards, Show, Status}
pub use Rattle.desk_core.specs.declared.calls.Work.{Work}
pub use Rattle.desk_core.specs.declared.calls.Work.TheVariants.{Claim, DeliverDeck, DeliverLink, Publish, GiveUp}
pub use Rattle.desk_core.specs.declared.calls.Call.{Call}
pub use Rattle.desk_core.specs.declared.calls.Call.TheVariants.{Make, Ask, Do}
pub use Rattle.desk_core.specs.declared.jobs.Start.{Start}
pub use Rattle.desk_core.specs.declared.jobs.Start.TheVariants.{FromRecord, FromCards}
pub use Rattle.desk_core.specs.declared.jobs.DeckWork.{DeckWork}
pub use Rattle.desk_core.specs.declared.jobs.LinkWork.{LinkWork}
pub use Rattle.desk_core.specs.declared.replies.State.{State}
pub use Rattle.desk_core.specs.declared.replies.State.TheVariants.{Out, Behind, Ready}
pub use Rattle.desk_core.specs.declared.replies.Row.{Row}
pub use Rattle.desk_core.specs.declared.replies.Refusal.{Refusal}
pub use Rattle.desk_core.specs.declared.replies.Refusal.TheVariants.{OutOfMemory, NoSuchCard, DeckFull, NameTaken, NoDeck, OldVersion, TooManyDecks, UnknownJob, Stale, Foreign, NoPublication, VersionsSpent, BadEdit, BatchSize, NotKept, Forgotten, TouchedCard, NoChange}
pub use Rattle.desk_core.specs.declared.replies.Reply.{Reply}
pub use Rattle.desk_core.specs.declared.replies.Reply.TheVariants.{Changed, Carried, Unkept, CardsAre, ChangesAre, CardsBefore, Shown, StatusIs, DeckJob, LinkJob, Idle, AllOut, Stored, Published, Cleared, Refused}
