use Rattle.std.{proofs.Common.{◌≡◌, ◌≤◌, ◌*◌, length, take}, specs.Io.KnownBytes.Appends}
use Rattle.session_line.specs.{Replies.numbers_text, Views.numbers_of}
use Rattle.session_line.proofs.writing.write_found.Given as goal

-- exactly the numbers of the cards so far went out, and the writer has not failed
abbrev pub invariant-loop-place : goal.invariant-loop-place
invariant-loop-place g l = record {
  lines : Appends (g.W.Write.contents l.fn.output.0) (g.W.Write.contents l.output.0) (numbers_text (numbers_of l.text (take l.place l.cards)));
  count : l.sent ≡ length (numbers_text (numbers_of l.text (take l.place l.cards)));
  few : l.sent ≤ 128 * l.place;
  sound : l.output.1 ≡ l.fn.output.1;
}
