use Rattle.std.proofs.Common.{◌≡◌, ◌+◌, ◌-◌, ◌<◌, ap₂, arith, ◌∙◌}
use Rattle.deck_linker.proofs.ImageLaws.{word-written}
use Rattle.deck_linker.proofs.common_image.push_span.Goals as goal

pub loop-index-preserved : goal.loop-index-preserved
loop-index-preserved c =
    let span = c.args.span in
    let i = c.loop-index.index in
    let next : span.offset + (i + 1) ≡ span.offset + i + 1 = omega arith in
    let left : span.count - (i + 1) ≡ span.count - i - 1 = omega arith in
    let some : 0 < span.count - i = omega arith in
    let sum : c.args.base + span.offset + i ≡ c.args.base + (span.offset + i) = omega arith in
    word-written c.loop-index.text c.push_image_line.new.text _ c.args.base (span.offset + i) (span.count - i) span.value _ (span.offset + (i + 1)) (span.count - (i + 1))
    (ap₂ (λ a b. a + b) (ap₂ (λ a b. a + b) c.from.ensures c.from-in-loop-index.ensures) c.from-in-loop-index-2.ensures ∙ sum)
    next left some c.loop-index.invariant c.push_image_line.ensures
