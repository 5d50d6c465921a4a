pub mod BeforeSteps
pub mod ColumnSteps
pub mod CardLaws
pub mod SpanSteps
pub mod PartLaws
pub mod ReadingLaws
pub mod ColumnLaws
-- Edits by the number of cards.
pub mod FaultLaws
-- Edits carried over those of others.
pub mod CarrySteps
pub mod Commuting
pub mod Crossing
pub mod Following
pub mod Converging
pub mod Batches
pub mod Touches
pub mod WorkedCarrying
