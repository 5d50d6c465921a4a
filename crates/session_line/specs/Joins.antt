-- What inner functions promise, so that the proofs of the outer ones join: no promise of the documents leads here.
pub mod FlagWalks
pub mod MessageWalks
pub mod ChangeWalks
pub mod LineItems
pub mod Kinds
