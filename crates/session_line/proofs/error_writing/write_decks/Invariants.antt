use Rattle.std.{proofs.Common.{◌≡◌, ◌≤◌, ◌*◌, length, take}, specs.Prelude.flat_map, specs.Io.KnownBytes.Appends}
use Rattle.session_line.specs.{Errors.errors_where, Replies.text_of_lines}
use Rattle.session_line.proofs.error_writing.write_decks.Given as goal

-- the lines of the decks so far went out, and the writer has not failed
abbrev pub invariant-loop-shared : goal.invariant-loop-shared
invariant-loop-shared g l = record {
  lines : Appends (g.W.Write.contents l.fn.output.0) (g.W.Write.contents l.output.0) (flat_map (λ deck. text_of_lines (errors_where l.view deck)) (take l.shared-index l.objects));
  count : l.sent ≡ length (flat_map (λ deck. text_of_lines (errors_where l.view deck)) (take l.shared-index l.objects));
  few : l.sent ≤ 128 * 20000 * l.shared-index;
  sound : l.output.1 ≡ l.fn.output.1;
}
