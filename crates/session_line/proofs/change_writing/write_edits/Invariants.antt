use Rattle.std.{proofs.Common.{◌≡◌, ◌≤◌, ◌*◌, length, take}, specs.Io.KnownBytes.Appends}
use Rattle.session_line.specs.Joins.ChangeWalks.{edits_text}
use Rattle.session_line.proofs.change_writing.write_edits.Given as goal

-- exactly the lines of the edits so far went out, and the writer has not failed
abbrev pub invariant-loop-one : goal.invariant-loop-one
invariant-loop-one g l = record {
  lines : Appends (g.W.Write.contents l.fn.output.0) (g.W.Write.contents l.output.0) (edits_text (take l.one-index l.kept));
  count : l.sent ≡ length (edits_text (take l.one-index l.kept));
  few : l.sent ≤ 128 * l.one-index;
  sound : l.output.1 ≡ l.fn.output.1;
}
