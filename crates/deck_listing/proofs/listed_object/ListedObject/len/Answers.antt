use Rattle.std.proofs.Common.{◌∙◌, ap, length}
use Rattle.definitions.specs.{DeckInput.Deck, Listing.deck_listing, Objects.object_of}
use Rattle.deck_listing.proofs.listed_object.ListedObject.len.Goals as goal

pub returns : goal.returns
returns c = c.self.invariant.len_is ∙ ap (λ (deck : Deck). length (deck_listing (object_of deck))) c.self.view_is
