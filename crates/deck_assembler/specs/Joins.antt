-- What inner functions promise, so that the proofs of the outer ones join: no promise of the documents leads here.
-- What a record keeps of a deck, as contracts see it.
pub mod DeckParts
pub mod SymbolKeys
pub mod FirstSymbols
pub mod OperandNames
-- What makes it the deck's.
pub mod SizedDecks
-- One statement more, and the statements up to END.
pub mod LiteralsRead
pub mod PieceSteps
pub mod Sizers
pub mod Agreements
pub mod Tails
pub mod OldDecks
-- Where an old deck and an edited one are found to agree.
pub mod Meetings
pub mod FirstStatements
-- What taking these makes, and counts.
pub mod Takings
-- What stays in a deck of another kind.
pub mod Heads
-- The fields of a statement, as a line keeps them.
pub mod KeptFields
-- Entries and externals.
pub mod SharedNames
-- One statement after another.
pub mod Walks
pub mod DeckWalks
-- What a statement reads in two decks.
pub mod Rebindings
-- A line taken over into another object.
pub mod CopiedFields
-- The lines of the object before an edit.
pub mod TailLines
pub mod FormerLines
pub mod Formers
-- One statement more, beside these lines.
pub mod DeckSteps
-- How many statements of an edited deck are coded.
pub mod DueCodes
-- What a walk makes and counts, whatever deck it is.
pub mod Puttings
