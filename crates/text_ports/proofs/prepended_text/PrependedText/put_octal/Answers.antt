use Rattle.std.proofs.{Common.{◌≡◌, ◌≤◌, ◌+◌, ◌-◌, ◌∙◌, sym, ap, ap₂, ◌++◌, drop, length, arith, rules}, lemmas.List.length-drop}
use Rattle.definitions.specs.Numerals.{digits_of}
use Rattle.text_ports.proofs.DigitSteps.{octal_of-step}
use Rattle.text_ports.proofs.prepended_text.PrependedText.put_octal.Goals as goal

pub loop-left-init : goal.loop-left-init
loop-left-init g c =
    let begin = c.self.inside.begin in
    let most : begin ≤ g.row.MOST = c.self.invariant in
    let long : length c.args.self.now ≡ g.row.MOST - begin = ap length (sym c.self.view_is) ∙ length-drop begin c.self.inside.bytes ∙ ap (λ n. n - begin) c.self.told in
    let room = c.requires.room in
    let count : begin - (begin - c.args.digits) ≡ c.args.digits = omega arith in
    record {
      behind = omega arith;
      within = most;
      room = c.self.told;
      split = ap₂ (λ n front. digits_of 8 n c.args.value ++ front) count c.self.view_is;
    }

pub loop-left-preserved : goal.loop-left-preserved
loop-left-preserved g c =
    let left = c.loop-left.left - 2 in
    let begin = c.self.inside.begin - c.args.digits in
    let back : left + 2 ≡ c.loop-left.left = omega arith in
    record {
      behind = omega arith;
      within = omega arith;
      room = search rules;
      split = octal_of-step c.loop-left.self-inside.bytes _ left begin c.loop-left.rest (c.copy_from_slice.ensures.after ∙ c.octal_pair.ensures) (omega arith) (omega arith)
          ∙ ap (λ n. digits_of 8 (n - begin) c.loop-left.rest ++ drop n c.loop-left.self-inside.bytes) back
          ∙ c.loop-left.invariant.split;
    }

pub put_byte-requires : goal.put_byte-requires
put_byte-requires g c =
    let bytes = c.loop-left.self-inside.bytes in
    let long : length (drop c.loop-left.left bytes) ≡ g.row.MOST - c.loop-left.left = length-drop c.loop-left.left bytes ∙ ap (λ n. n - c.loop-left.left) c.loop-left.invariant.room in
    omega (arith, long)

pub returns-then-left-begin-clause-text : goal.returns-then-left-begin-clause-text
returns-then-left-begin-clause-text g c =
    let begin = c.self.inside.begin - c.args.digits in
    let none : 0 ≡ c.loop-left.left - begin = omega arith in
    ap (λ n. digits_of 8 n c.loop-left.rest ++ drop c.loop-left.left c.loop-left.self-inside.bytes) none ∙ c.loop-left.invariant.split

pub returns-clause-text : goal.returns-clause-text
returns-clause-text g c =
    let begin = c.self.inside.begin - c.args.digits in
    let one : 1 ≡ c.loop-left.left - begin = omega arith in
    c.put_byte.ensures.text ∙ ap (λ n. digits_of 8 n c.loop-left.rest ++ drop c.loop-left.left c.loop-left.self-inside.bytes) one ∙ c.loop-left.invariant.split

pub returns-then-left-begin-clause-len : goal.returns-then-left-begin-clause-len
returns-then-left-begin-clause-len g c =
    let begin = c.self.inside.begin in
    let most : begin ≤ g.row.MOST = c.self.invariant in
    let old : length c.args.self.now ≡ g.row.MOST - begin = ap length (sym c.self.view_is) ∙ length-drop begin c.self.inside.bytes ∙ ap (λ n. n - begin) c.self.told in
    let bytes = c.loop-left.self-inside.bytes in
    let new : length (drop c.loop-left.left bytes) ≡ g.row.MOST - c.loop-left.left = length-drop c.loop-left.left bytes ∙ ap (λ n. n - c.loop-left.left) c.loop-left.invariant.room in
    let room = c.requires.room in
    omega (arith, old, new)

pub returns-clause-len : goal.returns-clause-len
returns-clause-len g c =
    let begin = c.self.inside.begin in
    let most : begin ≤ g.row.MOST = c.self.invariant in
    let old : length c.args.self.now ≡ g.row.MOST - begin = ap length (sym c.self.view_is) ∙ length-drop begin c.self.inside.bytes ∙ ap (λ n. n - begin) c.self.told in
    let bytes = c.loop-left.self-inside.bytes in
    let new : length (drop c.loop-left.left bytes) ≡ g.row.MOST - c.loop-left.left = length-drop c.loop-left.left bytes ∙ ap (λ n. n - c.loop-left.left) c.loop-left.invariant.room in
    let more = c.put_byte.ensures.len in
    let room = c.requires.room in
    omega (arith, old, new, more)
