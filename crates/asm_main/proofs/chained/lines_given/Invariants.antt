use Rattle.std.proofs.Common.{◌≡◌, drop}
use Rattle.asm_main.specs.Joins.Chains.{lines_given}
use Rattle.asm_main.proofs.chained.lines_given.Given as goal

abbrev pub invariant-loop-part : goal.invariant-loop-part
invariant-loop-part g l = lines_given 0 l.parts ≡ lines_given l.lines (drop l.part-index l.parts)
