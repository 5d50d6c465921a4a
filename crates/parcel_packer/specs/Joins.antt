-- What inner functions promise, so that the proofs of the outer ones join: no promise of the documents leads here.
pub mod Packing
pub mod Spans
pub mod Filling
pub mod Joining
pub mod Laying
