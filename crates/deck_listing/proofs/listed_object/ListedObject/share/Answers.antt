use Rattle.std.proofs.Common.{◌∙◌, sym, ap, length}
use Rattle.definitions.specs.{DeckInput.Deck, Listing.deck_listing, Objects.object_of}
use Rattle.deck_listing.specs.{DecksBehind.decks_behind, ListedObjects.lines_in}
use Rattle.deck_listing.proofs.listed_object.ListedObject.share.Goals as goal

pub invariant_of-result : goal.invariant_of-result
invariant_of-result c = record {
  lines_are = c.self.invariant.lines_are ∙ sym (ap (λ (deck : Deck). lines_in (deck_listing (object_of deck))) c.in_ok-share.ensures);
  len_is = c.self.invariant.len_is ∙ sym (ap (λ (deck : Deck). length (deck_listing (object_of deck))) c.in_ok-share.ensures);
  behind_is = c.self.invariant.behind_is ∙ sym (ap decks_behind c.in_ok-share.ensures);
}
