pub mod Sums
pub mod Stages
pub mod Longer
pub mod Steps
pub mod Dealing
pub mod Seating
pub mod Gathering
pub mod Reading
