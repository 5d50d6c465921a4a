use Rattle.std.proofs.{Common.{◌<◌, List, [], length, get_or, sym, ap, subst, ◌∙◌, arith}, lemmas.List.get_or_read}
use Rattle.desk_core.{specs.Joins.Language.Card, specs.Joins.Pieces.IsSpot, proofs.PieceLaws.{is-piece, card-inside}}
use Rattle.desk_core.proofs.card_pieces.CardPieces.card_at.Goals as goal

pub returns : goal.returns
returns c =
    let pieces = c.self.inside.pieces.items in
    let spot = c.spot_of-spot.result in
    let here = subst (λ (ps : List (List Card)). IsSpot ps c.args.place spot.piece spot.card) c.as_slice.ensures.value c.spot_of-spot.ensures in
    let less = subst (λ (cards : List Card). c.args.place < length cards) (sym c.self.view_is) c.requires in
    let inside = here.begun less in
    let within = is-piece pieces spot.piece (omega (arith, inside)) in
    let one = get_or_read pieces spot.piece c.index-piece.result.now within c.index-piece.ensures [] in
    let cards = c.as_slice-2.ensures ∙ one in
    let same = ap length cards in
    get_or_read c.as_slice-2.result.now spot.card c.index-as_slice-spot.result (omega (arith, same, inside)) c.index-as_slice-spot.is []
    ∙ (ap (λ (own : List Card). get_or own spot.card []) cards
    ∙ (card-inside pieces c.args.place spot.piece spot.card here.placed inside ∙ ap (λ (all : List Card). get_or all c.args.place []) c.self.view_is))
