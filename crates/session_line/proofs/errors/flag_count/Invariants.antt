use Rattle.std.proofs.Common.{◌≡◌, ◌≤◌, ◌+◌, drop, length}
use Rattle.session_line.specs.Joins.FlagWalks.{flags_in}
use Rattle.session_line.proofs.errors.flag_count.Given as goal

-- those so far, and those among the statements that are left, are all
abbrev pub invariant-loop-shown : goal.invariant-loop-shown
invariant-loop-shown l = record {
  counted : l.count + length (flags_in 0 l.ahead (drop l.shown-index l.lines)) ≡ length (flags_in 0 l.cards l.lines);
  few : l.count + length l.ahead ≤ length l.cards;
}
