use Rattle.std.{proofs.Common.{◌≡◌, ◌+◌, ◌-◌, ◌^◌, ◌++◌, ◌∙◌, ap, ap₂}, specs.Prelude.min}
use Rattle.definitions.specs.Kinds.{memory_end}
use Rattle.deck_listing.{specs.Joins.ImageWordLines.equal_lines, proofs.ImageLineSteps.span_put, proofs.section_words.push_span.Goals.{then-count-gt1, else-count-gt1}}
use Rattle.deck_listing.proofs.section_words.push_span.Goals as goal

pub returns : goal.returns
returns c =
    let kind = c.args.kind in
    let span = c.args.span.now in
    let address = c.saturating_add-address.result in
    let text = c.if-count-gt1.text in
    let kept : text ≡ c.args.text.now = elim c.if-count-gt1.branch [ then-count-gt1 w ↦ w.text-is ∙ w.make_room.ensures | else-count-gt1 w ↦ w.text-is ] in
    let count : c.min-count.result ≡ min (memory_end kind - address) span.count =
    c.min-count.ensures ∙ ap₂ min (c.saturating_sub-left.ensures ∙ ap (λ end. end - address) (c.from-2.ensures ∙ c.memory_end.ensures)) c.from-3.ensures in
    span_put kind (c.args.base + c.args.block) span.offset span.count span.value address c.args.text.now text c.push_image_lines.new.text
    (c.saturating_add-address.ensures ∙ ap₂ (λ from offset. min (from + offset) (2 ^ 64 - 1)) c.saturating_add.ensures c.from.ensures) kept
    (c.push_image_lines.ensures ∙ ap (λ n. text ++ equal_lines kind address n span.value) count)
