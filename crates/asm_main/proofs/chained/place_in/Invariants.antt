use Rattle.std.proofs.Common.{◌≡◌, drop}
use Rattle.asm_main.specs.Joins.Chains.{place_in}
use Rattle.asm_main.proofs.chained.place_in.Given as goal

abbrev pub invariant-loop-number : goal.invariant-loop-number
invariant-loop-number g l = place_in l.parts 0 l.line ≡ place_in (drop l.number l.parts) l.number l.left
