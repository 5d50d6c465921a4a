pub mod RefusedChanges
pub mod RefusedCommands
pub mod SeatSteps
