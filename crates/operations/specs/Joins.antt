-- What inner functions promise, so that the proofs of the outer ones join: no promise of the documents leads here.
pub mod OperationsAs
pub mod KindsFound
pub mod LetterBits
