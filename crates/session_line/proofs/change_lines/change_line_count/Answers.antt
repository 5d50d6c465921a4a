use Rattle.std.proofs.Common.{arith}
use Rattle.session_line.proofs.ChangeSteps.{count-first, own-some, some-left}
use Rattle.session_line.proofs.change_lines.change_line_count.Goals as goal

pub loop-rest-preserved : goal.loop-rest-preserved
loop-rest-preserved c =
    let rest = c.loop-rest.rest.now in
    let own = c.split_change.result.0.now in
    let behind = c.split_change.result.1.now in
    let some = some-left rest c.is_empty.result c.is_empty.ensures c.loop-rest-test.true in
    let step = count-first rest own behind some c.split_change.ensures.first c.split_change.ensures.behind in
    let least = own-some rest own some c.split_change.ensures.first in
    record {
      counted = omega (arith, step, c.loop-rest.invariant.counted);
      few = omega (arith, least, c.split_change.ensures.all, c.loop-rest.invariant.few);
    }
