use Rattle.std.proofs.Common.{◌≡◌, ◌≤◌, ◌+◌, ◌*◌, length}
use Rattle.session_line.specs.ChangeLines.{change_lines}
use Rattle.session_line.proofs.change_lines.change_line_count.Given as goal

-- those so far, and those of the edits that are left, are all
abbrev pub invariant-loop-rest : goal.invariant-loop-rest
invariant-loop-rest l = record {
  counted : l.count + length (change_lines l.rest) ≡ length (change_lines l.kept);
  few : l.count + 2 * length l.rest ≤ 2 * length l.kept;
}

abbrev pub decreases-loop-rest : goal.decreases-loop-rest
decreases-loop-rest l = length l.rest
