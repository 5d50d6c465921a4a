-- What inner functions promise, so that the proofs of the outer ones join: no promise of the documents leads here.
pub mod NameKeys
pub mod BlockLengths
pub mod KeyedRows
pub mod EffectsAs
pub mod StateInside
pub mod Changes
