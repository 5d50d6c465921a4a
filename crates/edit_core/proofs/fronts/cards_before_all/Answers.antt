use Rattle.std.proofs.{Common.{◌≤◌, arith, subst, sym}, lemmas.List.Elements.All-get_or}
use Rattle.cards.specs.declared.edits.Edit.{Edit}
use Rattle.edit_core.{specs.Edited.front_of, proofs.EditLaws.front-more}
use Rattle.edit_core.proofs.fronts.cards_before_all.Goals as goal

pub loop-edit-preserved : goal.loop-edit-preserved
loop-edit-preserved c =
    let least = c.min-before.ensures in
    let front = c.cards_before.ensures in
    let edits = c.args.edits.now in
    let edit = c.edit-item.result in
    let so_far = c.loop-edit.invariant in
    record {
      all = front-more edits c.loop-edit.edit-index edit c.loop-edit.before c.min-before.result c.loop-edit-test.true c.edit-item.is
          (omega (arith, least)) (omega (arith, least, front)) so_far.all;
      most = λ count few all.
          let before = so_far.most count few all in
          let here = subst (λ (e : Edit). count ≤ front_of e) (sym c.edit-item.is) (All-get_or (λ (e : Edit). count ≤ front_of e) edits c.loop-edit.edit-index edit c.loop-edit-test.true all) in
          omega (arith, least, front, before, here);
    }
