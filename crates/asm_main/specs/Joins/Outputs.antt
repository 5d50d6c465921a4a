-- The texts of an output, and which go where (ours).
use Rattle.std.specs.Prelude.{ℕ, List, [], ◌++◌, Bool, if◌then◌else◌}
use Rattle.definitions.specs.{Build.image_of, DeckInput.Deck}
use Rattle.deck_linker.specs.Publishing.{listings, map_of}
use Rattle.asm_main.specs.declared.texts.Chosen.{Chosen}

-- a text where it is chosen, else none
abbrev pub text_where : Bool → List ℕ → List ℕ
text_where chosen text = if chosen then text else []

-- the chosen ones of the listings of decks and of the map behind them
abbrev pub front_to : Chosen → List Deck → List ℕ
front_to chosen decks = text_where chosen.listing (listings decks) ++ text_where chosen.map (map_of decks)

-- the chosen texts of decks: listings, map and image in this order
abbrev pub text_to : Chosen → List Deck → List ℕ
text_to chosen decks = front_to chosen decks ++ text_where chosen.image (image_of decks)
