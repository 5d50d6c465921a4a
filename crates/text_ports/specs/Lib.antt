pub mod Lines
pub mod Faults
-- What no promise leads to.
pub mod Joins
