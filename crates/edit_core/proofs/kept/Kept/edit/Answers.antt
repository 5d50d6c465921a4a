-- What one edit makes and counts is what a list of it does.
use Rattle.std.proofs.Common.{◌∙◌, List, Option, ap, subst}
use Rattle.cards.specs.{declared.edits.Edit.Edit, Edits.{edited, edited_by}}
use Rattle.edit_core.{specs.declared.faults.RecordFault.RecordFault, specs.Edited.{CountsWithinDue, EndsAs}, specs.Faults.against_all, proofs.EditLaws.against-one}
use Rattle.edit_core.proofs.kept.Kept.edit.Goals as goal

pub returns-clause-ends : goal.returns-clause-ends
returns-clause-ends c =
    let old = c.args.self.now in
    subst (λ (against : Option RecordFault). EndsAs against (edited old.cards c.args.edit.now) old c.edit_all.new.self c.args.meter.now c.edit_all.new.meter c.edit_all.result)
    (against-one c.args.edit.now old.is_spent old.cards)
    (subst (λ (edits : List Edit). EndsAs (against_all edits old.is_spent old.cards) (edited_by edits old.cards) old c.edit_all.new.self c.args.meter.now c.edit_all.new.meter c.edit_all.result)
    c.from_ref.ensures.value c.edit_all.ensures.ends)

pub returns-clause-due : goal.returns-clause-due
returns-clause-due c =
    let old = c.args.self.now in
    λ none. subst (λ (edits : List Edit). CountsWithinDue edits old.cards c.args.meter.now c.edit_all.new.meter) c.from_ref.ensures.value
    (c.edit_all.ensures.due (ap (λ (edits : List Edit). against_all edits old.is_spent old.cards) c.from_ref.ensures.value ∙ against-one c.args.edit.now old.is_spent old.cards ∙ none))
