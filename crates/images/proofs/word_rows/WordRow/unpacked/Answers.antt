use Rattle.std.proofs.Common.{ℕ, ◌≡◌, length, ap, subst, ◌∙◌, arith}
use Rattle.word_packing.{specs.Packing.Fit, proofs.RoundTrip.length-firsts}
use Rattle.images.proofs.word_rows.WordRow.unpacked.Goals as goal

pub invariant_of-result : goal.invariant_of-result
invariant_of-result c =
    let count : length c.in_ok-words.words.items ≡ c.args.count = ap length c.in_ok-words.ensures.words ∙ length-firsts _ c.args.count in
    record {
      short = omega (arith, count, c.requires.short);
      fit = subst (λ (digits : ℕ). Fit digits c.in_ok-words.words.items) c.hexadecimal_digits.ensures c.in_ok-words.ensures.fit;
    }
