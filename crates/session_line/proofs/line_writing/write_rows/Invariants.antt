use Rattle.std.{proofs.Common.{◌≡◌, ◌≤◌, ◌*◌, length, take, flat_map}, specs.Io.KnownBytes.Appends}
use Rattle.session_line.proofs.line_writing.write_rows.Given as goal

-- exactly the lines of the rows so far went out, and the writer has not failed
abbrev pub invariant-loop-row : goal.invariant-loop-row
invariant-loop-row g l = record {
  lines : Appends (g.W.Write.contents l.fn.output.0) (g.W.Write.contents l.output.0) (flat_map g.T.ReplyRow.line_text (take l.row-index l.rows));
  count : l.sent ≡ length (flat_map g.T.ReplyRow.line_text (take l.row-index l.rows));
  few : l.sent ≤ 128 * l.row-index;
  sound : l.output.1 ≡ l.fn.output.1;
}
