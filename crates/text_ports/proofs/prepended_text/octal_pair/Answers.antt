use Rattle.std.{proofs.Common.{◌≡◌, ◌+◌, ◌-◌, ◌*◌, ◌∙◌, ap, arith, true, refl, take, drop}, proofs.lemmas.Bool.agree_below_at}
use Rattle.definitions.{specs.Characters.same_text, specs.Numerals.octal_of, proofs.TextLaws.same_text-true}
use Rattle.text_ports.specs.declared.prepended_text.TheConstants.{PAIRS}
use Rattle.text_ports.proofs.prepended_text.octal_pair.Goals as goal

pub returns : goal.returns
returns c =
    let n = c.args.number in
    let two : 2 * n + 2 - 2 * n ≡ 2 = omega arith in
    ap (λ m. take m (drop (2 * n) PAIRS)) two
    ∙ same_text-true (take 2 (drop (2 * n) PAIRS)) (octal_of 2 n) (agree_below_at (λ k. same_text (take 2 (drop (2 * k) PAIRS)) (octal_of 2 k)) (λ k. true) 64 n refl c.requires)
