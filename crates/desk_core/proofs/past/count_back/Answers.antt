use Rattle.std.proofs.Common.{◌∙◌, ap, sym}
use Rattle.cards.specs.Counts.{fault_at, count_after}
use Rattle.desk_core.{specs.declared.past.Back.Back, proofs.BackSteps.{has-room, counted}}
use Rattle.desk_core.proofs.past.count_back.Goals as goal

pub count_after-count-requires : goal.count_after-count-requires
count_after-count-requires c =
    sym (ap (λ (back : Back). fault_at back.edit c.loop-gone.count) c.index-backs-backs.is)
    ∙ has-room c.args.backs.now c.args.cards.now c.loop-gone.gone c.index-backs-backs.result c.loop-gone-test.true c.index-backs-backs.is c.requires.applies c.loop-gone.count c.loop-gone.invariant

pub loop-gone-preserved : goal.loop-gone-preserved
loop-gone-preserved c =
    c.count_after-count.ensures
    ∙ (sym (ap (λ (back : Back). count_after back.edit c.loop-gone.count) c.index-backs-backs.is)
    ∙ counted c.args.backs.now c.args.cards.now c.loop-gone.gone c.index-backs-backs.result c.loop-gone-test.true c.index-backs-backs.is c.requires.applies c.loop-gone.count c.loop-gone.invariant)
