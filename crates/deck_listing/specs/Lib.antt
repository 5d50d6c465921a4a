-- Decks that begin behind the END of another.
pub mod DecksBehind
-- Objects with their listings.
pub mod ListedObjects
-- What no promise leads to.
pub mod Joins
