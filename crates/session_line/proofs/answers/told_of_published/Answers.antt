use Rattle.std.proofs.Common.{Result, sym, subst, ◌∙◌}
use Rattle.desk_core.specs.Desks.{Publication}
use Rattle.session_commands.specs.declared.refusals.Refusal.{Refusal}
use Rattle.session_line.specs.Answers.{IsToldBy, IsViewOf}
use Rattle.session_line.proofs.answers.told_of_published.Goals as goal

-- the publication is shown
pub returns-in-Ok-clause-told : goal.returns-in-Ok-clause-told
returns-in-Ok-clause-told c =
    let P : Result Publication Refusal → Type 0 = λ (given : Result Publication Refusal). IsToldBy c.args.view given c.told_of_view.result in
    let Q : Publication → Type 0 = λ (publication : Publication). IsViewOf c.args.view publication c.told_of_view.result in
    subst P (sym c.in-Ok.is ∙ c.shown_in.ensures) (subst Q (sym c.publication.ensures) c.told_of_view.ensures.told)
