-- What inner functions promise, so that the proofs of the outer ones join: no promise of the documents leads here.
-- Decks and common blocks in their places, and what names are worth there.
pub mod Placing
pub mod CommonLengths
pub mod CommonSets
-- Words of common blocks, and words beyond the end of memory.
pub mod CommonWords
pub mod Beyond
-- Names, and lines that are counted.
pub mod Names
pub mod Lines
-- LINK lines, and fields that do not fit.
pub mod DeckLines
pub mod UnfitLines
-- The map.
pub mod MapLines
-- The image.
pub mod Sections
-- Publications.
pub mod InPieces
