-- Publications.
pub mod Publishing
-- What no promise leads to.
pub mod Joins
