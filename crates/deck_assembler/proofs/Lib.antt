-- The table of symbols, and what statements define.
pub mod SymbolKeyLaws
pub mod SymbolLaws
pub mod NameTexts
pub mod DefinitionLaws
-- The pieces.
pub mod PieceLaws
pub mod PieceSteps
-- The literals.
pub mod LiteralSteps
pub mod BareOperands
-- The order of the deck.
pub mod ReverseLaws
pub mod OntoLaws
pub mod ForwardLaws
pub mod StateForward
-- Where END stands.
pub mod EndLaws
pub mod KindLaws
-- One statement more.
pub mod SizerSteps
pub mod AgreeLaws
pub mod OldLaws
pub mod StayLaws
pub mod HeadLaws
pub mod FrontLaws
pub mod TrialLaws
pub mod MeetLaws
-- All of a deck.
pub mod DeckLaws
-- Known fields as one number.
pub mod KnownLaws
-- Fields listed word by word.
pub mod ListedLaws
-- The fields of statements are short.
pub mod ShortLaws
-- What a line keeps.
pub mod KeptLaws
-- Entries and externals.
pub mod EntryLaws
pub mod EntryTables
pub mod ExternalLaws
-- Two facts of one value.
pub mod ResultLaws
-- The blocks of a deck.
pub mod BlockLaws
-- One statement more.
pub mod WalkLaws
-- The blocks that statements use.
pub mod UsedLaws
-- All statements of a deck.
pub mod DeckWalkLaws
pub mod PieceCounts
-- The parts of an object.
pub mod PartLaws
-- What a statement reads in two decks.
pub mod RebindingLaws
pub mod SameLaws
-- A line taken over into another object.
pub mod CopiedLaws
-- The lines of the object before an edit.
pub mod FormerLaws
-- How many statements of an edited deck are coded.
pub mod DueCodeLaws
pub mod DueCodeCounts
pub mod ReboundLaws
-- Where two views agree on what is left.
pub mod AlikeLaws
-- Where an old deck and an edited one are found to agree.
pub mod CutLaws
pub mod PieceMeetings
pub mod DueLaws
pub mod AgreementLaws
-- What stays in a deck of another kind.
pub mod NeutralLaws
pub mod HeadDeckLaws
pub mod HeadLineLaws
