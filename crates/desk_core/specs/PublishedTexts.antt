-- The texts of a publication that a session is shown (ours).
use Rattle.std.specs.Prelude.{ℕ, List, Option}
use Rattle.definitions.specs.{Build.{image_of, listing_of}, DeckInput.Deck}
use Rattle.deck_linker.specs.Publishing.{listing_named, map_of, section_named}
use Rattle.desk_core.specs.declared.published_texts.{DeckText.DeckText, PublishedText.PublishedText, PublishedText.TheVariants.{Image, Listing, Map}}
use Rattle.desk_core.specs.declared.published_texts.DeckText.TheVariants as part

-- the text of decks that is shown
abbrev pub shown_text : PublishedText → List Deck → List ℕ
shown_text Image decks = image_of decks
shown_text Listing decks = listing_of decks
shown_text Map decks = map_of decks

-- the text of one of them that is shown, if there is one: its section in the image, or its listing
abbrev pub shown_part : DeckText → List ℕ → List Deck → Option (List ℕ)
shown_part part.Section name decks = section_named name decks
shown_part part.Listing name decks = listing_named name decks
