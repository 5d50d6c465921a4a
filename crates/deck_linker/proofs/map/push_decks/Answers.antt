use Rattle.std.{proofs.Common.refl, specs.Prelude.flat_map}
use Rattle.definitions.specs.Map.{deck_line}
use Rattle.deck_linker.proofs.LineLaws.{text-step}
use Rattle.deck_linker.proofs.map.push_decks.Goals as goal

pub loop-based-preserved : goal.loop-based-preserved
loop-based-preserved c =
    text-step (flat_map deck_line) (deck_line) (λ x xs. refl) c.args.decks.now c.loop-based.based-index c.based-item.result c.loop-based-test.true c.based-item.is
    c.loop-based.text c.push_deck.new.text _ c.loop-based.invariant c.in_ok-push_deck.ensures
