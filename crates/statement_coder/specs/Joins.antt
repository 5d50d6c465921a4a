-- What inner functions promise, so that the proofs of the outer ones join: no promise of the documents leads here.
pub mod Externals
pub mod LettersAs
pub mod Readings
pub mod KeptReadings
pub mod ReadOperands
pub mod CodedReads
pub mod StatementsRead
pub mod Outcomes
pub mod Definitions
pub mod Sizings
pub mod KeptSizings
pub mod WordItems
pub mod CodedItems
pub mod FieldLetters
pub mod Items
pub mod Numbers
pub mod FieldItems
