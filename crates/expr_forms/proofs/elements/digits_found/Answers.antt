use Rattle.std.{proofs.Common.{◌∙◌, Option, ap, sym}, specs.Prelude.option_map}
use Rattle.definitions.specs.{Expressions.{ANumber, Element, onto_pairs, pairs_of}, Pieces.{Inside, pieces_at}}
use Rattle.expr_forms.{specs.Joins.Numbers.number_as, proofs.DigitLaws.{digits_number}}
use Rattle.expr_forms.proofs.elements.digits_found.Goals as goal

pub returns-in-None-clause-elements : goal.returns-in-None-clause-elements
returns-in-None-clause-elements c o =
    ap (λ (e : Option Element). onto_pairs o e (pairs_of c.args.base 0 (pieces_at Inside 0 c.args.rest.now)))
    (ap (option_map ANumber) (ap (option_map number_as) (sym c.in-None.is) ∙ c.digits_read.ensures) ∙ sym (digits_number c.args.base c.args.digits.now c.requires))

pub returns-in-Some-clause-elements : goal.returns-in-Some-clause-elements
returns-in-Some-clause-elements c o =
    ap (λ (e : Option Element). onto_pairs o e (pairs_of c.args.base 0 (pieces_at Inside 0 c.args.rest.now)))
    (ap (option_map ANumber) (ap (option_map number_as) (sym c.in-Some.is) ∙ c.digits_read.ensures) ∙ sym (digits_number c.args.base c.args.digits.now c.requires))
