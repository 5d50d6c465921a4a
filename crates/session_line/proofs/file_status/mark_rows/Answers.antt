use Rattle.std.proofs.Common.{[], ◌∷◌, ◌++◌, ◌+◌, length, length-append, ap, ◌∙◌}
use Rattle.session_line.{specs.declared.marked_rows.MarkedRow.MarkedRow, specs.FileStatus.marked, proofs.RowSteps.{marks-none, marks-more}}
use Rattle.session_line.proofs.file_status.mark_rows.Goals as goal

pub loop-row-init : goal.loop-row-init
loop-row-init g c = record {
  marked = marks-none g.S.Shelf.relations c.args.shelf.now c.in_ok-marks.marks.items c.in_ok-marks.ensures.items;
  each = ap length c.in_ok-marks.ensures.items;
  room = c.in_ok-marks.ensures.exact;
}

pub loop-row-preserved : goal.loop-row-preserved
loop-row-preserved g c =
    let put = c.push_reserved.ensures.items ∙ ap (λ (m : MarkedRow). c.loop-row.marks.items ++ m ∷ []) c.marked.ensures in
    record {
      marked =
          marks-more g.S.Shelf.relations c.args.shelf.now c.loop-row.shelf c.is_saved-saved.new.self c.args.rows.now c.loop-row.marks.items c.push_reserved.new.self.items c.loop-row.row-index c.row-item.result
          c.is_saved-saved.result c.loop-row-test.true c.row-item.is c.loop-row.invariant.marked c.is_saved-saved.ensures put;
      each = ap length put ∙ length-append c.loop-row.marks.items (marked c.row-item.result c.is_saved-saved.result ∷ []) ∙ ap (λ n. n + 1) c.loop-row.invariant.each;
      room = c.push_reserved.ensures.capacity ∙ c.loop-row.invariant.room;
    }
