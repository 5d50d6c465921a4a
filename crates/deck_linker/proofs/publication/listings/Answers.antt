use Rattle.std.proofs.Common.{refl, ◌++◌, ◌∙◌, ap}
use Rattle.definitions.specs.{DeckInput.Deck, Listing.deck_listing, Objects.object_of}
use Rattle.deck_linker.{specs.Publishing.listings, proofs.LineLaws.text-step}
use Rattle.deck_linker.proofs.publication.listings.Goals as goal

pub loop-object-preserved : goal.loop-object-preserved
loop-object-preserved c =
    text-step listings (λ (deck : Deck). deck_listing (object_of deck)) (λ x xs. refl) c.args.objects.now c.loop-object.object-index c.object-item.result c.loop-object-test.true c.object-item.is
    c.loop-object.text c.push_listing.new.text _ c.loop-object.invariant (c.push_listing.ensures ∙ ap (λ (deck : Deck). c.loop-object.text ++ deck_listing (object_of deck)) c.object.ensures)
