-- What jobs take over from decks, edits, records and the desk. Declares nothing.
pub use Rattle.definitions.specs.Cards.{Card}
pub use Rattle.definitions.specs.DeckInput.{Deck}
pub use Rattle.cards.specs.declared.edits.Edit.{Edit}
pub use Rattle.edit_core.specs.Edited.{statement_count}
pub use Rattle.edit_core.specs.Sums.{statements_sum, CountsInOrder}
pub use Rattle.edit_core.specs.Faults.{edits_fault}
pub use Rattle.edit_core.specs.declared.faults.RecordFault.{RecordFault}
pub use Rattle.edit_core.specs.declared.faults.RecordFault.TheVariants.{OutOfMemory}
pub use Rattle.desk_core.specs.declared.calls.Done.{Done}
pub use Rattle.desk_core.specs.declared.calls.Call.{Call}
pub use Rattle.desk_core.specs.declared.calls.Call.TheVariants.{Do}
pub use Rattle.desk_core.specs.declared.calls.Work.TheVariants.{Claim, DeliverDeck, Publish, GiveUp}
pub use Rattle.desk_core.specs.declared.jobs.Start.{Start}
pub use Rattle.desk_core.specs.declared.jobs.Start.TheVariants.{FromRecord, FromCards}
pub use Rattle.desk_core.specs.declared.jobs.DeckWork.{DeckWork}
pub use Rattle.desk_core.specs.declared.jobs.LinkWork.{LinkWork}
pub use Rattle.desk_core.specs.declared.replies.Refusal.{Refusal}
pub use Rattle.desk_core.specs.declared.replies.Reply.{Reply}
pub use Rattle.desk_core.specs.declared.replies.Reply.TheVariants.{DeckJob, LinkJob, Published, Refused}
