use Rattle.std.proofs.Common.{◌+◌, arith}
use Rattle.expr_forms.{specs.Joins.Links.{operator_as, link_as}, specs.Joins.Running.{running_as, bases_as}, proofs.RunningLaws.AreSmall-le, proofs.ValueLaws.{value-factor_fault}}
use Rattle.expr_forms.proofs.values.walk_factor.Goals as goal

pub returns-in-Err-clause-next : goal.returns-in-Err-clause-next
returns-in-Err-clause-next g c joins pairs room =
    let walk = c.args.walk in
    value-factor_fault (g.N.Names.names c.args.names.now) (running_as walk.sum room) (operator_as walk.operator) walk.form c.in-Err.letter (link_as c.args.link) pairs joins c.in-Err.ensures

pub returns-in-Ok-clause-small : goal.returns-in-Ok-clause-small
returns-in-Ok-clause-small g c most room small = AreSmall-le most (most + 1) (bases_as c.args.walk.sum.bases room) (omega arith) small
