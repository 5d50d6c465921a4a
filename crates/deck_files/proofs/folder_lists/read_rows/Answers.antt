use Rattle.std.proofs.Common.{◌∙◌, ◌+◌, ap, length}
use Rattle.deck_files.proofs.ListSteps.{rows-none, rows-more}
use Rattle.deck_files.proofs.folder_lists.read_rows.Goals as goal

pub loop-entry-init : goal.loop-entry-init
loop-entry-init g c = record {
  read = rows-none g.F.Folder.has_done c.args.within.now.folder.now c.args.within.now.number c.args.files.now c.new-rows.result.items c.new-rows.ensures.items;
  each = ap length c.new-rows.ensures.items;
}

pub loop-entry-preserved : goal.loop-entry-preserved
loop-entry-preserved g c = record {
  read = rows-more g.F.Folder.has_done c.args.within.now.folder.now c.args.within.now.number c.args.files.now c.loop-entry.files c.add_row.new.files c.args.entries.now c.loop-entry.rows.items
      c.add_row.new.rows.items c.loop-entry.entry-index c.entry-item.result c.in_default.ensures.row.0 c.loop-entry-test.true c.entry-item.is c.loop-entry.invariant.read
      c.in_default.ensures.row.1 c.in_default.ensures.row.2;
  each = c.in_default.ensures.longer ∙ ap (λ n. n + 1) c.loop-entry.invariant.each;
}
