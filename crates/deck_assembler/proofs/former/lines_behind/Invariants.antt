use Rattle.std.proofs.Common.{◌≡◌, drop}
use Rattle.deck_assembler.specs.Joins.TailLines.{lines_behind}
use Rattle.deck_assembler.proofs.former.lines_behind.Given as goal

-- so many cards are left of the first ones
abbrev pub invariant-loop-k : goal.invariant-loop-k
invariant-loop-k l = lines_behind l.left (drop l.k l.lines) ≡ lines_behind l.count l.lines
