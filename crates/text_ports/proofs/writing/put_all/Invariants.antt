use Rattle.std.{proofs.Common.{◌≡◌, ◌-◌, ◌≤◌, length, take}, specs.Io.KnownBytes.Appends}
use Rattle.text_ports.proofs.writing.put_all.Given as goal

-- exactly the first `sent` bytes went out, and the port has not failed
abbrev pub invariant-loop-sent : goal.invariant-loop-sent
invariant-loop-sent g l = record {
  within : l.sent ≤ length l.bytes;
  prefix : Appends (g.W.Write.contents l.fn.output.0) (g.W.Write.contents l.output.0) (take l.sent l.bytes);
  sound : l.output.1 ≡ l.fn.output.1;
}

abbrev pub decreases-loop-sent : goal.decreases-loop-sent
decreases-loop-sent g l = length l.bytes - l.sent
