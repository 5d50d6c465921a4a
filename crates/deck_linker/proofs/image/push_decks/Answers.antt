use Rattle.std.{proofs.Common.{refl, subst, sym}, specs.Prelude.flat_map}
use Rattle.definitions.specs.LinkValues.{linking_of}
use Rattle.deck_listing.specs.Joins.BlockWords.{AreBlockWords}
use Rattle.deck_linker.{specs.Joins.Sections.deck_section, proofs.LineLaws.text-step}
use Rattle.deck_linker.proofs.image.push_decks.Goals as goal

pub loop-based-preserved : goal.loop-based-preserved
loop-based-preserved c =
    let layout = c.args.layout.now in
    let based = c.based-item.result in
    let words = subst (AreBlockWords (linking_of layout based) based.object) (sym c.as_slice.ensures.value) c.in_ok-blocks.ensures.words in
    text-step (flat_map (deck_section layout)) (deck_section layout) (λ x xs. refl) c.args.decks.now c.loop-based.based-index based c.loop-based-test.true c.based-item.is
    c.loop-based.text c.push_deck.new.text _ c.loop-based.invariant (c.push_deck.ensures layout words)
