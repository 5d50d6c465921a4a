-- What is published of decks.
use Rattle.std.specs.Prelude.{ℕ, ◌≡◌, Bool, true, List, [], ◌∷◌, Option, None, Some, flat_map, length, map, if◌then◌else◌}
use Rattle.definitions.specs.{Build.{build_of, image_of, listing_of}, Characters.same_text, DeckInput.Deck, Image.section, Layout.{Based, Layout, layout_of}, Listing.deck_listing, Map.map_text, Objects.object_of, declared.deck_kind.DeckKind.DeckKind, declared.deck_kind.DeckKind.TheVariants.Rel}

-- decks under a version
pub record Published : Type 0 where
  pub version : ℕ
  pub decks : List Deck

-- the listings of decks, one behind the other
abbrev pub listings : List Deck → List ℕ
listings decks = flat_map deck_listing (map object_of decks)

-- the map of the link of decks
abbrev pub map_of : List Deck → List ℕ
map_of decks = map_text (layout_of (map object_of decks))

-- these are the texts and the counts of decks; the map begins at a place of the listing
pub record IsPublished (decks : List Deck) (listing : List ℕ) (map_at : ℕ) (image : List ℕ) (errors links : ℕ) : Type 0 where
  pub listing_is : listing ≡ listing_of decks
  pub map_stands : map_at ≡ length (listings decks)
  pub image_is : image ≡ image_of decks
  pub errors_are : errors ≡ (build_of decks).errors
  pub links_are : links ≡ (build_of decks).links

-- the listing of the first of these decks that has a name, if one has it
abbrev pub listing_named : List ℕ → List Deck → Option (List ℕ)
listing_named name [] = None
listing_named name (deck ∷ decks) = if same_text deck.name name then Some (deck_listing (object_of deck)) else listing_named name decks

-- the section of a deck in a link, if it has one: a REL deck that passes the end of memory has none
abbrev pub section_if : DeckKind → Bool → Layout → Based → Option (List ℕ)
section_if Rel true layout based = None
section_if kind is_past layout based = Some (section layout based)

abbrev pub section_of : Layout → Based → Option (List ℕ)
section_of layout based = section_if based.object.kind based.is_past layout based

-- the section of the first of these decks of a link that has a name, if one has it and has a section
abbrev pub section_in : List ℕ → Layout → List Based → Option (List ℕ)
section_in name layout [] = None
section_in name layout (based ∷ others) = if same_text based.object.name name then section_of layout based else section_in name layout others

-- the section of a name in the image of decks
abbrev pub section_named : List ℕ → List Deck → Option (List ℕ)
section_named name decks = section_in name (layout_of (map object_of decks)) (layout_of (map object_of decks)).decks
