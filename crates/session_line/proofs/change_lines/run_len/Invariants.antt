use Rattle.std.proofs.Common.{◌≡◌, ◌+◌, drop}
use Rattle.session_line.specs.Joins.ChangeWalks.{run_len}
use Rattle.session_line.proofs.change_lines.run_len.Given as goal

-- all so far made this version
abbrev pub invariant-loop-i : goal.invariant-loop-i
invariant-loop-i l = record { passed : run_len l.version l.kept ≡ l.i + run_len l.version (drop l.i l.kept) }
