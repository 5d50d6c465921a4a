-- What the desk takes over from the definitions of the language: cards, decks, and the build of decks. Declares nothing.
pub use Rattle.definitions.specs.Characters.{same_text}
pub use Rattle.definitions.specs.Cards.{Card}
pub use Rattle.definitions.specs.DeckInput.{Deck}
pub use Rattle.definitions.specs.Build.{listing_of, image_of}
