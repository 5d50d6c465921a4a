use Rattle.std.{proofs.Common.{rules, ◌≡◌, ◌∙◌, ◌<◌, List, Some, ap, arith, length, subst, sym}, specs.Prelude.option_copied}
use Rattle.definitions.specs.{Operands.{all_read, data_word}, Pieces.{Piece}}
use Rattle.expr_forms.{specs.Joins.{Numbers.number_as, Subfields.subfields_left}, proofs.DataTextLaws.{number-cut, number-first}}
use Rattle.expr_forms.proofs.data_words.next_number.Goals as goal

pub returns-clause-some : goal.returns-clause-some
returns-clause-some c =
    let there : c.subfields.inside.rest ≡ Some c.in_ok-text.text = search rules in
    ap (all_read (data_word c.args.base)) (sym c.subfields.view_is ∙ ap (λ o. subfields_left (option_copied o)) there)
    ∙ number-first c.args.base c.in_ok-text.text.now (option_copied c.in_ok-value.rest) c.in_ok-value.value (number_as c.with_scale.result) c.in_ok-value.ensures.number c.with_scale.ensures

pub returns-clause-fewer : goal.returns-clause-fewer
returns-clause-fewer c =
    let there : c.subfields.inside.rest ≡ Some c.in_ok-text.text = search rules in
    let left = option_copied c.in_ok-value.rest in
    subst (λ (all : List (List Piece)). length (subfields_left left) < length all)
    (sym (number-cut c.args.base c.in_ok-text.text.now left c.in_ok-value.value c.in_ok-value.ensures.number) ∙ sym (ap (λ o. subfields_left (option_copied o)) there) ∙ c.subfields.view_is)
    (omega arith)
