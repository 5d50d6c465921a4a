-- The ways to the texts of decks (ours).
use Rattle.std.specs.Prelude.{List}
use Rattle.definitions.specs.DeckInput.{Deck}
use Rattle.asm_main.specs.declared.built.Built.{Built, TheVariants.{Whole, InPieces}}

-- the decks of either way
abbrev pub decks_of : Built → List Deck
decks_of (Whole publication) = publication.decks
decks_of (InPieces decks) = decks
