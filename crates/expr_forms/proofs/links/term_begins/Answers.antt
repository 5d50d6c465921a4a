use Rattle.std.proofs.Common.{◌∙◌, sym}
use Rattle.expr_forms.{specs.Joins.Links.operator_as, proofs.LoneLaws.{text-begins}}
use Rattle.expr_forms.proofs.links.term_begins.Goals as goal

pub returns-in-Some-operator_of : goal.returns-in-Some-operator_of
returns-in-Some-operator_of c base lawful =
    c.joins_terms.ensures
    ∙ text-begins base c.args.text.now c.in-Some.field-0-1.now c.in-Some.c.now (operator_as c.in-Some-operator_of.operator) c.in-Some.ensures.cases.0 (sym c.in-Some-operator_of.ensures) lawful
