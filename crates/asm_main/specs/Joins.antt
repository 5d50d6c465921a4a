-- What inner functions promise, so that the proofs of the outer ones join: no promise of the documents leads here.
pub mod LatestFaults
pub mod Chains
pub mod Outputs
pub mod FaultWords
pub mod LinkWords
pub mod Filters
pub mod Ways
