use Rattle.std.proofs.Common.{◌≡◌, ◌+◌, ◌-◌, ◌++◌, ◌∙◌, ap, sym, arith, append-nil, length}
use Rattle.deck_listing.{specs.Joins.ImageWordLines.octal_lines, proofs.ImageLineSteps.octal_more}
use Rattle.deck_listing.proofs.image_lines.push_octal_lines.Goals as goal

pub loop-index-preserved : goal.loop-index-preserved
loop-index-preserved c =
    let a = c.args in
    let i = c.loop-index.index in
    record {
      end = c.push_address.ensures.end ∙ c.loop-index.invariant.end;
      len = ap length c.push_address.ensures.end ∙ c.loop-index.invariant.len;
      text = ap (λ t. t ++ octal_lines a.address_digits a.value_digits (a.address + (i + 1)) (a.count - (i + 1)) a.value) c.push_address.ensures.text
          ∙ octal_more a.address_digits a.value_digits a.address a.count a.value i c.loop-index.end c.loop-index.text _ c.loop-index-test.true c.loop-index.invariant.end c.loop-index.invariant.text;
    }

pub returns : goal.returns
returns c =
    let a = c.args in
    let i = c.loop-index.index in
    let none : 0 ≡ a.count - i = omega arith in
    sym (append-nil c.loop-index.text)
    ∙ ap (λ n. c.loop-index.text ++ octal_lines a.address_digits a.value_digits (a.address + i) n a.value) none
    ∙ c.loop-index.invariant.text
