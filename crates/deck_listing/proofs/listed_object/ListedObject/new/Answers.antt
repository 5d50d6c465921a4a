use Rattle.std.proofs.Common.{◌∙◌, ap, length}
use Rattle.definitions.specs.{DeckInput.Deck, Listing.deck_listing, Objects.object_of}
use Rattle.deck_listing.specs.{DecksBehind.decks_behind, ListedObjects.lines_in}
use Rattle.deck_listing.proofs.listed_object.ListedObject.new.Goals as goal

pub invariant_of-result : goal.invariant_of-result
invariant_of-result c =
    let text = c.in_ok-text.ensures ∙ ap (λ (deck : Deck). deck_listing (object_of deck)) c.object-2.ensures in
    record {
      lines_are = c.lines_in-lines.ensures ∙ ap lines_in (c.as_slice.ensures ∙ text);
      len_is = c.len-len.ensures ∙ ap length text;
      behind_is = c.decks_behind-behind.ensures ∙ ap decks_behind c.object-3.ensures;
    }
