-- The bytes of a text that is shown, by where they come from (ours).
use Rattle.std.specs.Prelude.{ℕ, List}
use Rattle.definitions.specs.Build.{listing_of}
use Rattle.desk_core.specs.declared.shown_text.{Source.Source, Source.TheVariants.{Made, OfDecks}}

-- those of a text, or of the listing of decks
abbrev pub shown_bytes : Source → List ℕ
shown_bytes (Made text) = text
shown_bytes (OfDecks decks) = listing_of decks
