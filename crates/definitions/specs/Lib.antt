-- The contents, in the order in which cards flow.
-- Characters and numbers.
pub mod Characters
pub mod Numerals
-- From bytes to lines and cards.
pub mod InputLines
pub mod Cards
-- From cards to statements, and the three fields of a statement.
pub mod Statements
pub mod CountedItems
pub mod Pieces
pub mod Fields
-- The cut of input into decks.
pub mod DeckInput
-- What depends on the kind of a deck alone.
pub mod Kinds
-- Expressions: how they are read, what they are worth, how a value stands in a field.
pub mod Symbols
pub mod Expressions
pub mod Forms
pub mod Coding
-- The instruction tables, and how an operand is matched with them.
pub mod CentralTable
pub mod PeripheralTable
pub mod Matching
-- Operations, what they make of a deck, and their operands.
pub mod Operations
pub mod DeckKinds
pub mod Operands
pub mod Sizes
-- One statement after another: blocks, places, counters, early values; the state between statements.
pub mod Settled
pub mod Blocks
pub mod Places
pub mod Counters
pub mod EarlyValues
pub mod Settling
-- A whole deck: literals, lengths and bases, items, entries, letters, words, the object.
pub mod Literals
pub mod Lengths
pub mod StatementItems
pub mod Entries
pub mod Letters
pub mod Words
pub mod Objects
-- The texts: listing, link, map, image, and both together.
pub mod Listing
pub mod Layout
pub mod LinkValues
pub mod LinkLines
pub mod Map
pub mod Image
pub mod Build
-- What laws are stated by, and leads to no byte of an answer.
pub mod Laws
-- The answer of `compass asm`.
pub mod Answer
