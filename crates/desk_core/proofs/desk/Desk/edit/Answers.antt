use Rattle.std.proofs.Common.{◌∙◌, false, List, subst, sym}
use Rattle.desk_core.specs.{Joins.Edits.Edit, Joins.Calls.Edits, Carrying.{edit_by, edit_seen}, Joins.Turns.MayAnswer}
use Rattle.desk_core.proofs.desk.Desk.edit.Goals as goal

pub returns-in-Batch : goal.returns-in-Batch
returns-in-Batch c =
    subst (λ (asked : Edits). MayAnswer c.args.self.now (edit_seen c.args.name.now c.args.seen asked c.args.by.now c.args.self.now) c.edit_by.result c.edit_by.new.self) (sym c.in-Batch.is)
    (subst (λ (edits : List Edit). MayAnswer c.args.self.now (edit_by false c.args.name.now c.args.seen edits c.args.by.now c.args.self.now) c.edit_by.result c.edit_by.new.self)
    (c.deref_mut.ensures.value ∙ c.into_items-edits.ensures) c.edit_by.ensures)
