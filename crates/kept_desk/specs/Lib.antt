pub mod EndsRelations
pub mod Keeping
pub mod Waiting
pub mod Greeting
pub mod Doors
pub mod Refused
