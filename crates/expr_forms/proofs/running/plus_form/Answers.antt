use Rattle.std.{proofs.Common.{◌+◌, sym, subst}, specs.Prelude.{option_map}}
use Rattle.expr_forms.{specs.Joins.FormsAs.part_as, specs.Joins.Links.operator_as, specs.Joins.Running.{bases_as, AreSmall}, proofs.RunningLaws.{AreSmall-part}}
use Rattle.expr_forms.proofs.running.plus_form.Goals as goal

pub returns-in-Some-clause-small : goal.returns-in-Some-clause-small
returns-in-Some-clause-small c most small =
    subst (AreSmall (most + 1)) (sym c.in-Some.ensures.added)
    (AreSmall-part most (operator_as c.args.operator) (option_map part_as c.part-part.result) (bases_as c.args.sum.bases c.args.room.now) small)
