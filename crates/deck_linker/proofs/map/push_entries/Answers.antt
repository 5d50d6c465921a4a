use Rattle.std.proofs.Common.{refl}
use Rattle.definitions.specs.Map.{entry_lines}
use Rattle.deck_linker.{specs.Joins.MapLines.new_entry, proofs.LineLaws.text-step}
use Rattle.deck_linker.proofs.map.push_entries.Goals as goal

pub loop-entry-preserved : goal.loop-entry-preserved
loop-entry-preserved c =
    text-step (entry_lines c.args.layout.now.commons c.args.earlier.now c.args.based.now) (new_entry c.args.layout.now.commons c.args.earlier.now c.args.based.now) (λ x xs. refl) c.args.entries.now c.loop-entry.entry-index c.entry-item.result c.loop-entry-test.true c.entry-item.is
    c.loop-entry.text c.push_new_entry.new.text _ c.loop-entry.invariant c.in_ok-push_new_entry.ensures
