-- What no promise leads to.
pub mod Joins
