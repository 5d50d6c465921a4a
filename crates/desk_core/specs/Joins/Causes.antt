-- Causes in the order in which they count, as edits have them. Declares nothing.
pub use Rattle.cards.specs.Causes.{when, first_cause}
