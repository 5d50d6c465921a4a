use Rattle.std.proofs.Common.{ℕ, List, sym, subst}
use Rattle.word_packing.{specs.Packing.Fit, proofs.RoundTrip.unpacked-fit}
use Rattle.word_packing.proofs.packing.unpack.Goals as goal

pub returns-clause-fit : goal.returns-clause-fit
returns-clause-fit c =
    subst (λ (words : List ℕ). Fit c.args.digits words) (sym c.loop-number.invariant) (unpacked-fit c.args.digits c.loop-number.number c.args.bytes.now)
