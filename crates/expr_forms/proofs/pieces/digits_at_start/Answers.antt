use Rattle.std.{proofs.Common.{◌∙◌, ◌∷◌, List, ℕ, ap, ap₂, arith, sym}}
use Rattle.definitions.specs.Pieces.{Inside, Plain, pieces_at}
use Rattle.expr_forms.{specs.Joins.PiecesFound.ends_run, proofs.DigitLaws.{digits_in_front, pieces-digits}}
use Rattle.expr_forms.proofs.pieces.digits_at_start.Goals as goal

pub returns-clause-pieces : goal.returns-clause-pieces
returns-clause-pieces c ended =
    pieces-digits c.args.text.now c.digit_count-count.result c.digit_count-count.ensures.count (omega (arith, c.if-count-eq0.false)) (ap ends_run (sym c.split_at.ensures.back) ∙ ended)
    ∙ ap₂ (λ (digits rest : List ℕ). Plain digits ∷ pieces_at Inside 0 rest) (sym c.split_at.ensures.front) (sym c.split_at.ensures.back)

pub returns-clause-digits : goal.returns-clause-digits
returns-clause-digits c =
    digits_in_front c.args.text.now c.split_at.result.0.now c.digit_count-count.result c.digit_count-count.ensures.count (omega (arith, c.if-count-eq0.false)) c.split_at.ensures.front
