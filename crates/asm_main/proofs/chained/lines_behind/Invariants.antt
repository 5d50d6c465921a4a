use Rattle.std.proofs.Common.{◌≡◌, drop}
use Rattle.asm_main.specs.Joins.Chains.{ends_behind}
use Rattle.asm_main.proofs.chained.lines_behind.Given as goal

abbrev pub invariant-loop-byte : goal.invariant-loop-byte
invariant-loop-byte l = ends_behind l.count l.bytes ≡ ends_behind l.lines (drop l.byte-index l.bytes)
