pub mod Records
pub mod Faults
pub mod Edited
pub mod Sums
-- What no promise leads to.
pub mod Joins
