use Rattle.deck_linker.proofs.MapLaws.{entries-step}
use Rattle.deck_linker.proofs.map.push_entries_of.Goals as goal

pub loop-based-preserved : goal.loop-based-preserved
loop-based-preserved c =
    entries-step c.args.layout.now.commons c.loop-based.earlier c.add_entries.new.self c.args.decks.now c.loop-based.based-index c.based-item.result c.entries.result.now c.entries-in-loop-based.result.now
    c.loop-based-test.true c.based-item.is c.loop-based.text c.push_entries.new.text _ c.loop-based.invariant c.in_ok-push_entries.ensures c.entries.ensures c.entries-in-loop-based.ensures c.in_ok-add_entries.ensures
