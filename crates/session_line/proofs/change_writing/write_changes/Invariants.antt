use Rattle.std.proofs.Common.{◌≡◌, ◌≤◌, ◌+◌, ◌*◌, length}
use Rattle.session_line.{specs.ChangeLines.change_lines, specs.Replies.text_of_lines, proofs.SentSoFar.IsUpTo}
use Rattle.session_line.proofs.change_writing.write_changes.Given as goal

-- the lines of the changes so far went out, and the writer has not failed
abbrev pub invariant-loop-rest : goal.invariant-loop-rest
invariant-loop-rest g l = record {
  gone : IsUpTo (g.W.Write.contents l.fn.output.0) (g.W.Write.contents l.output.0) l.sent (text_of_lines (change_lines l.rest)) (text_of_lines (change_lines l.kept));
  few : l.sent + 256 * length l.rest ≤ 256 * length l.kept;
  sound : l.output.1 ≡ l.fn.output.1;
}

abbrev pub decreases-loop-rest : goal.decreases-loop-rest
decreases-loop-rest g l = length l.rest
