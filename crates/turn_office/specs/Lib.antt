pub mod Histories
pub mod Rule
pub mod Seats
pub mod Boards
-- What no promise leads to.
pub mod Joins
