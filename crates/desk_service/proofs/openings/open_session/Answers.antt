use Rattle.std.proofs.Common.{◌≡◌, arith, subst}
use Rattle.desk_service.specs.Sessions.{OpensLines, most_strange, no_stranger, next_stranger, ended_early, met, strange}
use Rattle.desk_service.proofs.openings.open_session.Goals as goal

pub loop-number-init : goal.loop-number-init
loop-number-init g c = no_stranger

pub returns-in-Ended : goal.returns-in-Ended
returns-in-Ended g c = ended_early _ c.loop-number.number c.in-Ended.ending c.loop-number.invariant (omega (arith, c.loop-number-test.true)) (rw c.in-Ended.is at c.open_line.ensures)

pub returns-in-Met : goal.returns-in-Met
returns-in-Met g c = met _ c.loop-number.number c.loop-number.invariant (omega (arith, c.loop-number-test.true)) (rw c.in-Met.is at c.open_line.ensures)

pub loop-number-preserved : goal.loop-number-preserved
loop-number-preserved g c = next_stranger _ _ c.loop-number.number c.loop-number.invariant (rw c.in-Strange.is at c.open_line.ensures)

pub returns : goal.returns
returns g c =
    let all : c.loop-number.number ≡ most_strange = omega (arith, c.loop-number.auto.number-end, c.loop-number-test.false) in
    strange (subst (OpensLines _ _ _ _ _) all c.loop-number.invariant)
