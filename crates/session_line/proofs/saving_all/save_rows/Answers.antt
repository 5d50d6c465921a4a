use Rattle.std.proofs.Common.{length, ap, ◌∙◌, arith}
use Rattle.session_line.proofs.RowSteps.{line-few, saves-none, saves-more}
use Rattle.session_line.proofs.saving_all.save_rows.Goals as goal

pub loop-row-init : goal.loop-row-init
loop-row-init g c =
    let none = ap length c.in_ok-saved.ensures.items in
    record {
      saved = saves-none g.C.Calls.relations.asks g.S.Shelf.relations c.args.desk.now c.args.shelf.now c.in_ok-saved.saved.items c.in_ok-saved.ensures.items;
      few = omega (arith, none);
      room = c.in_ok-saved.ensures.exact;
    }

pub loop-row-preserved : goal.loop-row-preserved
loop-row-preserved g c =
    let more = ap length c.put_saved.ensures.items in
    let few = line-few c.loop-row.saved.items c.save_row-told.result in
    record {
      saved =
          saves-more g.C.Calls.relations.asks g.S.Shelf.relations c.args.desk.now c.loop-row.desk c.save_row-told.new.desk c.args.shelf.now c.loop-row.shelf c.save_row-told.new.shelf
          c.args.rows.now c.loop-row.saved.items c.put_saved.new.saved.items c.loop-row.row-index c.row-item.result c.save_row-told.result c.loop-row-test.true c.row-item.is c.loop-row.invariant.saved c.save_row-told.ensures
          c.put_saved.ensures.items;
      few = omega (arith, more, few, c.loop-row.invariant.few);
      room = c.put_saved.ensures.room ∙ c.loop-row.invariant.room;
    }
