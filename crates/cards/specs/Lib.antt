pub mod CardReads
pub mod Causes
pub mod Edits
pub mod Counts
pub mod Carrying
pub mod Converging
-- What no promise leads to.
pub mod Joins
