use Rattle.std.proofs.Common.{◌∙◌, ap}
use Rattle.definitions.specs.{DeckInput.Deck, Listing.errors_of, Objects.object_of}
use Rattle.deck_linker.proofs.PublishLaws.{errors-step}
use Rattle.deck_linker.proofs.publication.errors_in.Goals as goal

pub loop-object-preserved : goal.loop-object-preserved
loop-object-preserved c =
    errors-step c.args.objects.now c.loop-object.object-index c.object-item.result c.loop-object.count _ c.errors.result _ c.loop-object-test.true c.object-item.is c.loop-object.invariant
    c.in_ok-count.ensures (c.errors.ensures ∙ ap (λ (deck : Deck). errors_of (object_of deck)) c.object.ensures)
