pub mod Working
pub mod Jobs
pub mod Rounds
pub mod Subscribers
-- What no promise leads to.
pub mod Joins
