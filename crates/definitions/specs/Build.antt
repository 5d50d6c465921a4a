-- A build: what assembling and linking decks gives, and what it counts.
use Rattle.std.specs.Prelude.{ℕ, ◌+◌, List, [], ◌∷◌, ◌++◌, flat_map, map, length}
use Rattle.definitions.specs.{DeckInput.Deck, Objects.{Object, object_of}, Listing.{deck_listing, errors_of}, Layout.layout_of, LinkLines.link_lines, Map.map_text, Image.image_text}

-- the listing of each object in order, and the link map behind them
abbrev pub listing_of_objects : List Object → List ℕ
listing_of_objects objects = flat_map deck_listing objects ++ map_text (layout_of objects)

-- the octal image of objects in their places
abbrev pub image_of_objects : List Object → List ℕ
image_of_objects objects = image_text (layout_of objects)

-- the listing of decks, with the link map
abbrev pub listing_of : List Deck → List ℕ
listing_of decks = listing_of_objects (map object_of decks)

-- the octal image of decks
abbrev pub image_of : List Deck → List ℕ
image_of decks = image_of_objects (map object_of decks)

-- how many statements of these objects are flagged
abbrev pub errors_in : List Object → ℕ
errors_in [] = 0
errors_in (object ∷ objects) = errors_of object + errors_in objects

-- the two texts, one behind the other, and how many statements are flagged and how many LINK lines there are
pub record Build : Type 0 where
  pub text : List ℕ
  pub errors : ℕ
  pub links : ℕ

-- the build of decks that are assembled already
abbrev pub build_of_objects : List Object → Build
build_of_objects objects = record {
  text = listing_of_objects objects ++ image_of_objects objects;
  errors = errors_in objects;
  links = length (link_lines (layout_of objects));
}

-- the build of decks
abbrev pub build_of : List Deck → Build
build_of decks = build_of_objects (map object_of decks)
