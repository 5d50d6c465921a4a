use Rattle.std.proofs.Common.{arith, refl}
use Rattle.text_ports.proofs.LineSteps.{ReadsWholeLine-line, ReadsWholeLine-too_long}
use Rattle.text_ports.proofs.lines.next_whole_line.Goals as goal

pub returns-in-Byte-eq10-clause-reads : goal.returns-in-Byte-eq10-clause-reads
returns-in-Byte-eq10-clause-reads g c =
    ReadsWholeLine-line _ _ _ _ _ c.loop.invariant.held (rw c.in-Byte-eq10.field-0-test at c.in-Byte-eq10.ensures.bytes) (omega arith)

pub returns-then-is_full-clause-reads : goal.returns-then-is_full-clause-reads
returns-then-is_full-clause-reads g c =
    ReadsWholeLine-too_long _ _ _ _ _ _ c.in-Byte.byte c.loop.invariant.held c.in-Byte.ensures.bytes c.in-Byte.byte-test.1
    (c.if-is_full.ensures.full.0 refl) c.clear-then-is_full.ensures
