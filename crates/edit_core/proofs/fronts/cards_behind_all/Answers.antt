-- The last cards are the same behind each edit.
use Rattle.std.proofs.{Common.{List, sym, ap, subst, ◌∙◌, arith}, lemmas.List.drop_all}
use Rattle.cards.specs.{declared.edits.Edit.Edit, Edits.edited_by}
use Rattle.deck_assembler.specs.Joins.Agreements.{HaveSameEnd}
use Rattle.edit_core.{specs.Edited.StandBehind, proofs.EndLaws.left-more}
use Rattle.edit_core.proofs.fronts.cards_behind_all.Goals as goal

pub loop-edit-preserved : goal.loop-edit-preserved
loop-edit-preserved c = λ cards count few none.
    let so_far = c.loop-edit.invariant cards count few none in
    let least = c.min-behind.ensures in
    let here = c.cards_behind.ensures in
    left-more c.args.edits.now c.loop-edit.edit-index c.loop-edit.left c.loop-edit.behind c.cards_after-left.result c.min-behind.result c.edit-item.result cards c.loop-edit-test.true c.edit-item.is so_far
    (c.cards_after-left.ensures so_far.few) (omega (arith, least)) (omega (arith, least, here)) (λ n first second. omega (arith, least, here, first, second))

pub returns-clause-all : goal.returns-clause-all
returns-clause-all c = λ cards count few none.
    let so_far = c.loop-edit.invariant cards count few none in
    let over = drop_all c.loop-edit.edit-index c.args.edits.now (omega (arith, c.loop-edit-test.false)) in
    subst (HaveSameEnd c.loop-edit.behind cards) (sym (so_far.made ∙ ap (λ (edits : List Edit). edited_by edits so_far.current) over)) so_far.same

pub returns-clause-most : goal.returns-clause-most
returns-clause-most c = λ cards behind count few none within stand.
    ((c.loop-edit.invariant cards count few none).most behind (omega (arith, within, count)) (subst (StandBehind behind c.args.edits.now) (sym count) stand)).0
