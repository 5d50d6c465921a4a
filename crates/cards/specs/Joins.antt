-- What inner functions promise, so that the proofs of the outer ones join: no promise of the documents leads here.
pub mod Columns
pub mod Spans
pub mod Befores
pub mod FieldParts
pub mod CardParts
pub mod CarrySteps
