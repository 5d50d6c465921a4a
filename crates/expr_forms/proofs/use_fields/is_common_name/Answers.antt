use Rattle.std.proofs.Common.{◌∙◌, ◌&&◌, sym, ap₂, eq-eqb, ne_eqb}
use Rattle.definitions.specs.Symbols.{is_linked_name}
use Rattle.expr_forms.proofs.ReadingLaws.{is_common_name-by}
use Rattle.expr_forms.proofs.use_fields.is_common_name.Goals as goal

pub returns-then-last-ne47-clause-name : goal.returns-then-last-ne47-clause-name
returns-then-last-ne47-clause-name c =
    let name = c.in-Some-split_last.name.now in
    let first = c.in-Some.first.now in
    let last = c.in-Some-split_last.last.now in
    sym (is_common_name-by c.args.text.now c.in-Some.behind.now name first last c.in-Some.ensures.cases.0 c.in-Some-split_last.ensures.cases.0
    ∙ ap₂ (λ a b. (a && b) && is_linked_name name) (eq-eqb first 47 c.if-first-ne47.false) (ne_eqb last 47 c.if-last-ne47.true))

pub returns-else-last-ne47-clause-name : goal.returns-else-last-ne47-clause-name
returns-else-last-ne47-clause-name c =
    let name = c.in-Some-split_last.name.now in
    let first = c.in-Some.first.now in
    let last = c.in-Some-split_last.last.now in
    c.is_linked_name.ensures.name
    ∙ sym (is_common_name-by c.args.text.now c.in-Some.behind.now name first last c.in-Some.ensures.cases.0 c.in-Some-split_last.ensures.cases.0
    ∙ ap₂ (λ a b. (a && b) && is_linked_name name) (eq-eqb first 47 c.if-first-ne47.false) (eq-eqb last 47 c.if-last-ne47.false))
