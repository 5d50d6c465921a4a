use Rattle.std.proofs.Common.{◌≡◌}
use Rattle.word_packing.specs.Packing.{firsts, regrouped_at}
use Rattle.word_packing.proofs.packing.pack.Given as goal

abbrev pub invariant-loop-place : goal.invariant-loop-place
invariant-loop-place l = l.bytes.items ≡ firsts (regrouped_at l.digits 2 l.words) l.place
