use Rattle.std.proofs.Common.{◌≡◌, ◌≤◌, ◌<◌, ◌+◌, length}
use Rattle.session_line.{specs.Replies.text_of_lines, proofs.LinkSteps.shown_in, proofs.SentSoFar.IsUpTo}
use Rattle.session_line.proofs.error_writing.write_links.Given as goal

-- the lines so far that are shown went out, and the writer has not failed
abbrev pub invariant-loop-rest : goal.invariant-loop-rest
invariant-loop-rest g l = record {
  gone : IsUpTo (g.W.Write.contents l.fn.output.0) (g.W.Write.contents l.output.0) l.sent (text_of_lines (shown_in l.view l.rest)) (text_of_lines (shown_in l.view l.map));
  least : l.sent ≤ length l.map + 1;
  few : 0 < length l.rest → l.sent + length l.rest ≤ length l.map;
  sound : l.output.1 ≡ l.fn.output.1;
}

abbrev pub decreases-loop-rest : goal.decreases-loop-rest
decreases-loop-rest g l = length l.rest
