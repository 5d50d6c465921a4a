-- What inner functions promise, so that the proofs of the outer ones join: no promise of the documents leads here.
-- The lines of the words that fields fill.
pub mod WordLines
-- The text of what an object keeps, and the decks behind its END.
pub mod ListedParts
pub mod LinesBehind
-- Fields that are put, and the runs of the statements so far.
pub mod Putting
pub mod Walking
-- What lines are put to, the lines of words, and how a deck is linked alone.
pub mod Sheets
pub mod ImageWordLines
pub mod BlockWords
pub mod Alone
