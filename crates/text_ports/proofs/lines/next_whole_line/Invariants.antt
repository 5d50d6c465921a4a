use Rattle.std.proofs.Common.{◌≡◌}
use Rattle.text_ports.proofs.LineSteps.{IsHeld}
use Rattle.text_ports.proofs.lines.next_whole_line.Given as goal

-- the bytes so far are in the line, no line feed is among them, and the port has not failed
abbrev pub invariant-loop : goal.invariant-loop
invariant-loop g l = record {
  held : IsHeld (g.R.Read.remaining l.fn.input.0) (g.R.Read.remaining l.input.0) l.line l.counter;
  sound : l.input.1 ≡ l.fn.input.1;
}
