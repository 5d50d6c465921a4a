use Rattle.std.proofs.Common.{◌∙◌, [], sym}
use Rattle.definitions.{specs.Pieces.{ByMark, spot_behind, pieces_at, pieces_of}}
use Rattle.expr_forms.{specs.Joins.PiecesFound.mark_as, proofs.ElementLaws.{found_is, star-alone, mark-ends}}
use Rattle.expr_forms.proofs.elements.behind_star.Goals as goal

pub returns-in-None-clause-elements : goal.returns-in-None-clause-elements
returns-in-None-clause-elements c base o = star-alone base o c.args.text.now [] c.in-None.ensures.pieces tt

pub returns-then-ends_element-clause-elements : goal.returns-then-ends_element-clause-elements
returns-then-ends_element-clause-elements c base o =
    star-alone base o c.args.text.now _
    (found_is (pieces_of c.args.text.now) c.in-Some.found.piece _ c.in-Some.found.rest.now c.in-Some.ensures.pieces c.in-Mark.is)
    (mark-ends (mark_as c.in-Mark.mark) (pieces_at (spot_behind (ByMark (mark_as c.in-Mark.mark))) 0 c.in-Some.found.rest.now) (sym c.ends_element.ensures ∙ c.if-ends_element.true))
