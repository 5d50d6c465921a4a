-- What the first of the edits count, and so all of them.
use Rattle.std.proofs.Common.{List, Err, take, ap, subst}
use Rattle.cards.specs.{Edits.edited_by, declared.edits.Edit.Edit}
use Rattle.edit_core.{specs.Edited.{IsRecordOf, RisesToAnew, RisesToRebound}, specs.Sums.CountsInOrder, proofs.OrderLaws.{cut-accepted, cut-counts, first-made, whole-counts}}
use Rattle.edit_core.proofs.kept.Kept.edit_first.Goals.{After-edit_all}
use Rattle.edit_core.proofs.kept.Kept.edit_first.Goals as goal

first_counted : (c : After-edit_all) → CountsInOrder (take c.args.count c.args.edits.now) c.args.self.now.cards c.args.meter.now c.edit_all.new.meter
first_counted c =
    let old = c.args.self.now in
    let counted = c.edit_all.ensures.counts in
    let sums = c.edit_all.ensures.sums in
    cut-counts c.args.edits.now c.split_at.result.0.now c.args.count old.is_spent old.cards c.args.meter.now c.edit_all.new.meter c.split_at.ensures.front c.requires.apply c.requires.some c.requires.within c.requires.near
    (λ none. (sums none).sized) (λ none. (sums none).coded) counted.sized_rises counted.sized counted.coded_rises counted.coded

counted : (c : After-edit_all) → CountsInOrder c.args.edits.now c.args.self.now.cards c.args.meter.now c.edit_all.new.meter
counted c = whole-counts c.args.edits.now c.args.count c.args.self.now.is_spent c.args.self.now.cards c.args.meter.now c.edit_all.new.meter c.requires.apply (first_counted c)

pub returns-in-Ok-clause-made : goal.returns-in-Ok-clause-made
returns-in-Ok-clause-made c =
    let old = c.args.self.now in
    first-made c.args.edits.now c.split_at.result.1.now c.args.count old c.edit_all.new.self c.args.meter.now c.edit_all.new.meter c.split_at.ensures.back c.requires.apply
    (subst (λ (l : List Edit). IsRecordOf old.name (edited_by l old.cards) c.edit_all.new.self) c.split_at.ensures.front c.in-Ok.ensures.ends.made)
    (first_counted (goal.at.returns-in-Ok-clause-made c).After-edit_all)
    (subst (λ (l : List Edit). RisesToAnew l old.cards c.args.meter.now.sized c.edit_all.new.meter.sized) c.split_at.ensures.front c.in-Ok.ensures.anew.sized)
    (subst (λ (l : List Edit). RisesToRebound l old.cards c.args.meter.now.coded c.edit_all.new.meter.coded) c.split_at.ensures.front c.in-Ok.ensures.anew.coded)

pub returns-in-Ok-clause-counts : goal.returns-in-Ok-clause-counts
returns-in-Ok-clause-counts c = counted (goal.at.returns-in-Ok-clause-counts c).After-edit_all

pub returns-in-Err-clause-lost : goal.returns-in-Err-clause-lost
returns-in-Err-clause-lost c =
    c.in-Err.ensures.ends.lost (ap Err (c.in-Err.ensures.ends.accepted (cut-accepted c.args.edits.now c.split_at.result.0.now c.args.count c.args.self.now.is_spent c.args.self.now.cards c.split_at.ensures.front c.requires.apply)))

pub returns-in-Err-clause-counts : goal.returns-in-Err-clause-counts
returns-in-Err-clause-counts c = counted (goal.at.returns-in-Err-clause-counts c).After-edit_all
