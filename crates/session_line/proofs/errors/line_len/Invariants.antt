use Rattle.std.proofs.Common.{◌≡◌, ◌+◌, length}
use Rattle.session_line.specs.Joins.FlagWalks.{line_len}
use Rattle.session_line.proofs.errors.line_len.Given as goal

-- the characters so far, and those of the first line in the text that is left, are all
abbrev pub invariant-loop-c : goal.invariant-loop-c
invariant-loop-c l = record {
  line : l.len + line_len l.rest ≡ line_len l.text;
  whole : l.len + length l.rest ≡ length l.text;
}

abbrev pub decreases-loop-c : goal.decreases-loop-c
decreases-loop-c l = length l.rest
