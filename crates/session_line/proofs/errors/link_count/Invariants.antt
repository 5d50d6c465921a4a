use Rattle.std.proofs.Common.{◌≡◌, ◌≤◌, ◌+◌, length}
use Rattle.session_line.proofs.LinkSteps.{shown_in}
use Rattle.session_line.proofs.errors.link_count.Given as goal

-- those so far, and those of the lines that are left, are all
abbrev pub invariant-loop-rest : goal.invariant-loop-rest
invariant-loop-rest l = record {
  counted : l.count + length (shown_in l.view l.rest) ≡ length (shown_in l.view l.map);
  few : l.count + length l.rest ≤ length l.map;
}

abbrev pub decreases-loop-rest : goal.decreases-loop-rest
decreases-loop-rest l = length l.rest
