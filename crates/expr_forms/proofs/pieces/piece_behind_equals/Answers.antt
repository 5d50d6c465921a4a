use Rattle.std.proofs.Common.{◌∙◌, ◌∷◌, List, ℕ, ap, sym}
use Rattle.definitions.specs.{Pieces.{Inside, IsCountedItem, pieces_at}, Laws.ItemTexts.{item_as, span_as}}
use Rattle.expr_forms.proofs.PieceLaws.{pieces-item}
use Rattle.expr_forms.proofs.pieces.piece_behind_equals.Goals as goal

pub returns-in-Some-clause-pieces : goal.returns-in-Some-clause-pieces
returns-in-Some-clause-pieces c =
    let span = c.in-Some.span in
    pieces-item c.args.text.now (span_as span) (sym c.in-Some.ensures.item) c.in-Some.ensures.some
    ∙ ap (λ (t : List ℕ). IsCountedItem (item_as span.item) ∷ pieces_at Inside 0 t) (sym c.split_at.ensures.back)
