-- The lines of the fields that are left complete those of all.
use Rattle.std.{proofs.Common.{◌≡◌, ◌+◌, ◌*◌, ◌≤◌, drop}, specs.Prelude.map}
use Rattle.definitions.specs.{Layout.block_base, LinkLines.{address_lines, unfit_words}}
use Rattle.statement_coder.specs.Joins.Items.{item_as}
use Rattle.deck_objects.specs.Joins.LineItems.{AreShort}
use Rattle.deck_linker.specs.Joins.Lines.{with_lines}
use Rattle.deck_linker.proofs.unfit_fields.push_unfit_items.Given as goal

abbrev pub invariant-loop-item : goal.invariant-loop-item
invariant-loop-item l = record {
  lines : with_lines l.out (address_lines l.based.object.name (block_base l.layout.commons l.based l.block) (unfit_words l.layout l.based l.from (map item_as (drop l.item-index l.items))))
      ≡ with_lines l.fn.out (address_lines l.based.object.name (block_base l.layout.commons l.based l.block) (unfit_words l.layout l.based l.first (map item_as l.items)));
  short : AreShort (map item_as (drop l.item-index l.items));
  small : l.from ≤ l.first + 60 * l.item-index;
}
