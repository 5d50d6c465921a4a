-- What inner functions promise, so that the proofs of the outer ones join: no promise of the documents leads here.
-- The fields that a line keeps.
pub mod LineItems
-- The lines and the parts of an object.
pub mod CodedLines
pub mod PartsOf
