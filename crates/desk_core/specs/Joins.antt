-- What inner functions promise, so that the proofs of the outer ones join: no promise of the documents leads here.
pub mod Language
pub mod Causes
pub mod Edits
pub mod Held
pub mod Calls
pub mod Stored
pub mod OwnNames
pub mod Turns
pub mod Delivered
pub mod Pieces
pub mod Shown
