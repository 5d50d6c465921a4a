-- Objects that have the counts of their listings with them (ours).
use Rattle.std.specs.Prelude.{ℕ, ◌≡◌, ◌==◌, List, filter, length}
use Rattle.definitions.specs.{Characters.line_feed, DeckInput.Deck, Listing.deck_listing, Objects.object_of}
use Rattle.deck_listing.specs.DecksBehind.{decks_behind}

-- how many lines a text has
abbrev pub lines_in : List ℕ → ℕ
lines_in text = length (filter (λ c. c == line_feed) text)

-- the listing of a deck has so many lines and bytes, and so many decks begin behind its END
pub record IsListed (deck : Deck) (lines len behind : ℕ) : Type 0 where
  pub lines_are : lines ≡ lines_in (deck_listing (object_of deck))
  pub len_is : len ≡ length (deck_listing (object_of deck))
  pub behind_is : behind ≡ decks_behind deck
