-- What laws are stated by: no byte of an answer leads here.
-- The grammar of expressions; how fields and items are cut.
pub mod Grammar
pub mod ItemTexts
pub mod Cuts
-- The state between statements; how statements follow one another in their blocks.
pub mod States
pub mod Filling
pub mod Rising
pub mod Reaching
-- An edit of a deck: where two decks agree, what it leaves, and what is sized and coded again.
pub mod Agreement
pub mod Edits
pub mod Rebound
