use Rattle.std.proofs.{Common.{◌≡◌, ◌≤◌, ◌+◌, ◌-◌, ◌∙◌, sym, ap, ap₂, ◌++◌, drop, length, arith, rules}, lemmas.List.length-drop}
use Rattle.definitions.specs.Numerals.{digits_of}
use Rattle.text_ports.proofs.DigitSteps.{digits_of-step}
use Rattle.text_ports.proofs.prepended_text.PrependedText.put_padded.Goals as goal

pub loop-left-init : goal.loop-left-init
loop-left-init g c =
    let begin = c.self.inside.begin in
    let most : begin ≤ g.row.MOST = c.self.invariant in
    let long : length c.args.self.now ≡ g.row.MOST - begin = ap length (sym c.self.view_is) ∙ length-drop begin c.self.inside.bytes ∙ ap (λ n. n - begin) c.self.told in
    let room = c.requires.room in
    let count : begin - (begin - c.args.digits) ≡ c.args.digits = omega arith in
    record {
      behind = omega arith;
      within = most;
      room = c.self.told;
      split = ap₂ (λ n front. digits_of 10 n c.args.value ++ front) count c.self.view_is;
    }

pub loop-left-preserved : goal.loop-left-preserved
loop-left-preserved g c =
    let left = c.loop-left.left - 1 in
    let begin = c.self.inside.begin - c.args.digits in
    let back : left + 1 ≡ c.loop-left.left = omega arith in
    record {
      behind = omega arith;
      within = omega arith;
      room = search rules;
      split = digits_of-step 10 c.loop-left.self-inside.bytes left begin c.loop-left.rest (omega arith) (omega arith)
          ∙ ap (λ n. digits_of 10 (n - begin) c.loop-left.rest ++ drop n c.loop-left.self-inside.bytes) back
          ∙ c.loop-left.invariant.split;
    }

pub returns-clause-len : goal.returns-clause-len
returns-clause-len g c =
    let begin = c.self.inside.begin in
    let most : begin ≤ g.row.MOST = c.self.invariant in
    let old : length c.args.self.now ≡ g.row.MOST - begin = ap length (sym c.self.view_is) ∙ length-drop begin c.self.inside.bytes ∙ ap (λ n. n - begin) c.self.told in
    let bytes = c.loop-left.self-inside.bytes in
    let new : length (drop (begin - c.args.digits) bytes) ≡ g.row.MOST - (begin - c.args.digits) = length-drop (begin - c.args.digits) bytes ∙ ap (λ n. n - (begin - c.args.digits)) c.loop-left.invariant.room in
    let room = c.requires.room in
    omega arith
