use Rattle.std.{proofs.Common.{◌∙◌, ap, sym}, specs.Prelude.option_copied}
use Rattle.expr_forms.{specs.Joins.Subfields.subfields_left, proofs.SubfieldLaws.field-cut}
use Rattle.expr_forms.proofs.subfields.Subfields.next.Goals as goal

pub returns-in-Some-clause-some : goal.returns-in-Some-clause-some
returns-in-Some-clause-some c =
    sym c.self.view_is
    ∙ (ap (λ o. subfields_left (option_copied o)) c.in-Some.is
    ∙ field-cut c.in-Some.text.now c.split_at.result.0.now c.split_at.result.1.now c.first_len.result _
    c.first_len.ensures.len c.split_at.ensures.front c.split_at.ensures.back c.behind_comma-self-inside.ensures.rest)
