use Rattle.deck_linker.proofs.LinkLineLaws.{decks-step}
use Rattle.deck_linker.proofs.link_lines.push_decks.Goals as goal

pub loop-based-preserved : goal.loop-based-preserved
loop-based-preserved c =
    decks-step c.args.layout.now c.loop-based.earlier c.add_entries.new.self c.args.decks.now c.loop-based.based-index c.based-item.result c.entries.result.now
    c.loop-based-test.true c.based-item.is c.loop-based.out c.push_deck.new.out _ c.loop-based.invariant c.in_ok-push_deck.ensures c.entries.ensures c.in_ok-add_entries.ensures
