use Rattle.std.proofs.{Common.{ℕ, ◌≡◌, ◌+◌, ◌∙◌, suc, List, take, get_or, slice_set, ap, sym, arith}, lemmas.List.get_or_default}
use Rattle.cards.{specs.declared.edits.Edit.Edit, specs.Carrying.placed, specs.Joins.CarrySteps.placed_all, proofs.CarrySteps.{placed-none, moved-more}}
use Rattle.cards.proofs.carrying.place_all.Goals as goal

pub loop-count-init : goal.loop-count-init
loop-count-init c = sym (placed-none c.args.edits.now)

pub loop-count-preserved : goal.loop-count-preserved
loop-count-preserved c =
    let k : ℕ = c.loop-count.count in
    let edits : List Edit = c.args.edits.now in
    let places : List ℕ = c.args.places.now in
    let same : c.loop-count.edits ≡ placed_all edits (take k places) = c.loop-count.invariant in
    let next : suc k ≡ k + 1 = omega arith in
    ap (λ (es : List Edit). slice_set es k c.move_to.new.self) same
    ∙ ap (λ (edit : Edit). slice_set (placed_all edits (take k places)) k edit) c.move_to.ensures
    ∙ ap (λ (edit : Edit). slice_set (placed_all edits (take k places)) k (placed (get_or places k 0) edit)) (sym c.index-edits-count.is)
    ∙ moved-more edits places k c.index-edits-count.result (get_or places k 0) (omega arith) (omega arith) (c.index-edits-count.is ∙ ap (λ (es : List Edit). get_or es k c.index-edits-count.result) same) (get_or_default places k 0 _ (omega arith))
    ∙ ap (λ (n : ℕ). placed_all edits (take n places)) next
