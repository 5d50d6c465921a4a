use Rattle.std.proofs.Common.{◌≡◌, drop}
use Rattle.asm_main.specs.Joins.Chains.{is_open_behind}
use Rattle.asm_main.proofs.chained.is_open_behind.Given as goal

abbrev pub invariant-loop-byte : goal.invariant-loop-byte
invariant-loop-byte l = is_open_behind l.was_open l.bytes ≡ is_open_behind l.is_open (drop l.byte-index l.bytes)
