use Rattle.std.proofs.Common.{◌≡◌}
use Rattle.word_packing.specs.Packing.{firsts, regrouped_at}
use Rattle.word_packing.proofs.packing.unpack.Given as goal

abbrev pub invariant-loop-number : goal.invariant-loop-number
invariant-loop-number l = l.words.items ≡ firsts (regrouped_at 2 l.digits l.bytes) l.number
