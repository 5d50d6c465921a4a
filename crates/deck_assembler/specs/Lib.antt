-- What stays of a deck in an edited one.
pub mod Stays
-- What no promise leads to.
pub mod Joins
