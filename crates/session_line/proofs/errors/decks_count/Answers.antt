use Rattle.std.proofs.Common.{length, arith, ap, ◌∙◌}
use Rattle.definitions.specs.DeckInput.{Deck}
use Rattle.session_line.{specs.Errors.errors_where, proofs.FlagSteps.counts-more}
use Rattle.session_line.proofs.errors.decks_count.Goals as goal

pub loop-shared-preserved : goal.loop-shared-preserved
loop-shared-preserved c =
    let view = c.args.view.now in
    let one = c.deck_count-count.ensures.count ∙ ap (λ (deck : Deck). length (errors_where view deck)) c.object.ensures in
    let more = counts-more (errors_where view) c.args.objects.now c.loop-shared.shared-index c.shared-item.result c.loop-shared-test.true c.shared-item.is in
    record {
      counted = omega (arith, one, more, c.loop-shared.invariant.counted);
      few = omega (arith, c.deck_count-count.ensures.few, c.loop-shared.invariant.few);
    }
