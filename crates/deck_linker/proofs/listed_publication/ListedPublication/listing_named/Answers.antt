use Rattle.std.{proofs.Common.{List, ◌∙◌, ap}, specs.Prelude.Some}
use Rattle.definitions.specs.{DeckInput.Deck, Listing.deck_listing, Objects.object_of}
use Rattle.deck_linker.specs.Publishing.{Published, listing_named}
use Rattle.deck_linker.proofs.listed_publication.ListedPublication.listing_named.Goals as goal

pub returns-in_ok-listing-in-Some : goal.returns-in_ok-listing-in-Some
returns-in_ok-listing-in-Some c =
    ap Some (c.in_ok-listing-in-Some.ensures ∙ ap (λ (deck : Deck). deck_listing (object_of deck)) c.object.ensures)
    ∙ c.in-Some.ensures
    ∙ ap (λ (decks : List Deck). listing_named c.args.name.now decks) c.as_slice.ensures.value
    ∙ ap (λ (published : Published). listing_named c.args.name.now published.decks) c.self.view_is
