use Rattle.std.proofs.Common.{◌≡◌, ◌≤◌, ◌+◌, Bool, length, arith, ap, sym, ◌∙◌}
use Rattle.session_line.{specs.Views.number_where, proofs.FoundSteps.count-more, proofs.views.count_with.Goals.{then-has_text, else-has_text}}
use Rattle.session_line.proofs.views.count_with.Goals as goal

pub loop-card-preserved : goal.loop-card-preserved
loop-card-preserved c =
    let grows : c.if-has_text.count ≡ c.loop-card.count + length (number_where c.has_text.result (c.loop-card.card-index + 1)) =
    elim c.if-has_text.branch [
      | then-has_text w ↦ w.count-is ∙ ap (λ (h : Bool). c.loop-card.count + length (number_where h (c.loop-card.card-index + 1))) (sym w.if-has_text.true)
      | else-has_text w ↦ w.count-is ∙ (let e : c.loop-card.count ≡ c.loop-card.count + 0 = omega arith in e) ∙ ap (λ (h : Bool). c.loop-card.count + length (number_where h (c.loop-card.card-index + 1))) (sym w.if-has_text.false)
    ] in
    let few : c.if-has_text.count ≤ c.loop-card.card-index + 1 =
    elim c.if-has_text.branch [ then-has_text w ↦ omega (arith, w.count-is, c.loop-card.invariant.few) | else-has_text w ↦ omega (arith, w.count-is, c.loop-card.invariant.few) ] in
    record {
      counted =
          count-more c.args.text.now c.args.cards.now c.loop-card.card-index c.card-item.result c.as_slice.result.now c.has_text.result c.loop-card.count c.if-has_text.count c.loop-card-test.true c.card-item.is
          c.as_slice.ensures.columns c.has_text.ensures c.loop-card.invariant.counted grows;
      few = few;
    }
