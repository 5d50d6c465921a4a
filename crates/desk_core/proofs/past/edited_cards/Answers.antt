-- One edit more is made, and what takes it back is kept.
use Rattle.std.proofs.Common.{List, [], ◌∷◌, ◌++◌, ℕ, ap₂, ◌∙◌}
use Rattle.desk_core.{specs.Joins.Edits.Edit, proofs.CopySteps.one-more}
use Rattle.desk_core.proofs.past.edited_cards.Goals as goal

pub loop-edit-preserved : goal.loop-edit-preserved
loop-edit-preserved c =
    let held = c.loop-edit.invariant in
    let back = ap₂ (λ (edit : Edit) (by : List ℕ). c.loop-edit.backs.items ++ record { edit = edit; by = by } ∷ []) c.undo_of-back.ensures c.copied.ensures in
    let next = one-more c.args.by.now c.args.edits.now c.loop-edit.edit-index c.edit-item.result c.args.cards.now c.loop-edit.edited c.edit.new.self c.loop-edit.backs.items c.push.new.self.items
    c.loop-edit-test.true c.edit-item.is c.in_ok-edit.ensures (c.in_ok-push.ensures.items ∙ back) held.applies held.made held.kept in
    record { applies = next.applies; made = next.made; kept = next.kept }
