use Rattle.std.proofs.Common.{◌≡◌, arith, subst}
use Rattle.desk_service.specs.Sessions.{ServesLines, most_commands, no_line, next_line, ended, full}
use Rattle.desk_service.proofs.sessions.serve_lines.Goals as goal

pub loop-init : goal.loop-init
loop-init g c = no_line

pub returns-in-Some : goal.returns-in-Some
returns-in-Some g c = ended _ c.loop.counter c.in-Some.ending c.loop.invariant (omega (arith, c.loop-test.true)) (rw c.in-Some.is at c.serve_line.ensures)

pub loop-preserved : goal.loop-preserved
loop-preserved g c = next_line _ _ c.loop.counter c.loop.invariant (rw c.in_default.is at c.serve_line.ensures)

pub returns : goal.returns
returns g c =
    let all : c.loop.counter ≡ most_commands = omega (arith, c.loop.auto.counter-end, c.loop-test.false) in
    full (subst (ServesLines _ _ _ _ _) all c.loop.invariant)
