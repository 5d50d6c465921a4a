use Rattle.std.proofs.Common.{◌∙◌, ap}
use Rattle.definitions.specs.{DeckInput.Deck, Listing.deck_listing, Objects.object_of}
use Rattle.deck_listing.specs.ListedObjects.{lines_in}
use Rattle.deck_listing.proofs.listed_object.ListedObject.lines.Goals as goal

pub returns : goal.returns
returns c = c.self.invariant.lines_are ∙ ap (λ (deck : Deck). lines_in (deck_listing (object_of deck))) c.self.view_is
