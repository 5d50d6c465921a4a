-- What inner functions promise, so that the proofs of the outer ones join: no promise of the documents leads here.
pub mod CodeTexts
pub mod CentralTables
pub mod RegistersFound
pub mod PatternTexts
pub mod Fits
pub mod Parts
pub mod Found
pub mod LawfulCodes
