-- Decks whose texts are made part by part, each when it is written (ours).
use Rattle.std.specs.{Prelude.{ℕ, ◌≡◌, ◌<◌, ◌≤◌, ◌+◌, ◌^◌, ⊤, List, [], ◌∷◌, ◌++◌, Vec, codes, flat_map, length, map}, List.AllZip}
use Rattle.definitions.specs.{Build.{build_of, listing_of}, DeckInput.Deck, Image.common_section_by, Layout.{Based, Layout, layout_of}, LinkValues.linking_of, Listing.{deck_listing, line}, Objects.object_of}
use Rattle.deck_listing.specs.{Joins.BlockWords.AreBlockWords, Joins.Sheets.room_of, ListedObjects.lines_in}
use Rattle.parcel_packer.specs.declared.word_spans.WordSpan.{WordSpan}
use Rattle.deck_linker.specs.{Joins.CommonWords.AreCommonWords, Publishing.{listings, map_of}, Joins.Sections.deck_section}

-- the listing of a deck
abbrev pub deck_text : Deck → List ℕ
deck_text deck = deck_listing (object_of deck)

-- what is behind the sections of the decks: those of the common blocks, and END
abbrev pub end_text : Layout → List ℕ
end_text layout = flat_map (common_section_by layout) layout.commons ++ line (codes "END")

-- the words that a deck in its place stores in each of its blocks
abbrev pub AreDeckWords : {Z Y : Type 0} → Layout → Based → Vec (Vec WordSpan Z) Y → Type 0
AreDeckWords layout based blocks = AreBlockWords (linking_of layout based) based.object blocks.items

-- each text of these needs no more than this room
abbrev pub DoFit : {A : Type 0} → (A → List ℕ) → ℕ → List A → Type 0
DoFit text room [] = ⊤
DoFit text room (x ∷ xs) = (length (text x) ≤ room) × DoFit text room xs

-- the sections of the decks need no more
abbrev pub DoSectionsFit : Layout → ℕ → Type 0
DoSectionsFit layout room = DoFit (deck_section layout) room layout.decks

-- how many bytes all texts have together, the listings so many of them, can be written
abbrev pub AreFew : Layout → ℕ → List ℕ → Type 0
AreFew layout listed map = listed + (length (flat_map (deck_section layout) layout.decks) + (length (end_text layout) + length map)) < 2 ^ 63

-- all is there that the texts of decks are made of, and the sheet on which they are made has room for the longest part;
-- how many bytes they have together can be written
pub record AreLinked {X Y Z : Type 0} (decks : List Deck) (layout : Layout) (words : List (Vec (Vec WordSpan X) Y)) (commons : List (Vec WordSpan Z)) (mapped sheet : List ℕ) (errors links : ℕ) : Type 0 where
  pub layout_is : layout ≡ layout_of (map object_of decks)
  pub words_are : AllZip (AreDeckWords layout) layout.decks words
  pub commons_are : AreCommonWords layout commons
  pub map_is : mapped ≡ map_of decks
  pub listings_fit : DoFit deck_text (room_of sheet) decks
  pub sections_fit : DoFit (deck_section layout) (room_of sheet) layout.decks
  pub end_fits : length (end_text layout) ≤ room_of sheet
  pub clear : sheet ≡ room_of sheet ∷ []
  pub few : length (build_of decks).text < 2 ^ 63
  pub errors_are : errors ≡ (build_of decks).errors
  pub links_are : links ≡ (build_of decks).links

-- all is there that the listing of decks is made of, and the sheet on which their listings are made has room for the longest; how
-- many bytes they have together can be written
pub record IsListing (decks : List Deck) (lines : ℕ) (mapped sheet : List ℕ) : Type 0 where
  pub lines_are : lines ≡ lines_in (listing_of decks)
  pub map_is : mapped ≡ map_of decks
  pub fit : DoFit deck_text (room_of sheet) decks
  pub clear : sheet ≡ room_of sheet ∷ []
  pub few : length (listings decks) + length mapped < 2 ^ 63
