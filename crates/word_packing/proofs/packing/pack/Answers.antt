use Rattle.std.proofs.Common.{◌≡◌, ◌*◌, ◌+◌, ◌/◌, length, ap, ◌∙◌, arith}
use Rattle.word_packing.{specs.Packing.{firsts, regrouped_at, unpacked}, proofs.RoundTrip.unpacked-packed}
use Rattle.word_packing.proofs.packing.pack.Goals as goal

pub returns-clause-back : goal.returns-clause-back
returns-clause-back c = λ fit.
    let digits = c.args.digits in
    let words = c.args.words.now in
    let end : c.loop-place.place ≡ (length words * digits + 1) / 2 = omega (arith, c.loop-place-test.false, c.loop-place.auto.place-end) in
    ap (unpacked digits (length words)) (c.loop-place.invariant ∙ ap (firsts (regrouped_at digits 2 words)) end) ∙ unpacked-packed digits words fit
