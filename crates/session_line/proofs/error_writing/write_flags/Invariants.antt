use Rattle.std.proofs.Common.{◌≡◌, ◌≤◌, ◌+◌, ◌*◌, drop, length}
use Rattle.session_line.{specs.Joins.FlagWalks.{flags_in, flags_text}, proofs.SentSoFar.IsUpTo}
use Rattle.session_line.proofs.error_writing.write_flags.Given as goal

-- the lines of the statements so far went out, and the writer has not failed
abbrev pub invariant-loop-shown : goal.invariant-loop-shown
invariant-loop-shown g l = record {
  gone : IsUpTo (g.W.Write.contents l.fn.output.0) (g.W.Write.contents l.output.0) l.sent
      (flags_text l.name (flags_in l.before l.ahead (drop l.shown-index l.lines))) (flags_text l.name (flags_in 0 l.cards l.lines));
  cards : l.before + length l.ahead ≡ length l.cards;
  few : l.sent ≤ 128 * l.before;
  sound : l.output.1 ≡ l.fn.output.1;
}
