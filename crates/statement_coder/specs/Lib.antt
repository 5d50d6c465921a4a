-- How often statements were sized or coded.
pub mod Meters
-- What no promise leads to.
pub mod Joins
