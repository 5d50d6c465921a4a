pub mod Seen
-- What edits count.
pub mod Counts
