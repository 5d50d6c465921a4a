pub mod Inputs
pub mod Faults
pub mod Runs
pub mod Builds
-- What no promise leads to.
pub mod Joins
