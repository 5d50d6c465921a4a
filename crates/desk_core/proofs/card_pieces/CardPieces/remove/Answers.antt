-- The card goes out of its piece.
use Rattle.std.{proofs.Common.{◌<◌, List, [], length, set, sym, ap, subst, ◌∙◌, arith}, specs.Prelude.remove, proofs.lemmas.List.get_or_read}
use Rattle.desk_core.{specs.Joins.Language.Card, specs.Joins.Pieces.joined, proofs.PieceLaws.{is-piece, removed-inside}}
use Rattle.desk_core.proofs.card_pieces.CardPieces.remove.Goals as goal

pub returns : goal.returns
returns c =
    let pieces = c.short_spot.new.pieces.items in
    let spot = c.in_ok-spot.spot in
    let here = c.in_ok-spot.ensures.spot in
    let same = c.short_spot.ensures.same ∙ c.self.view_is in
    let less = subst (λ (cards : List Card). c.args.place < length cards) (sym same) c.requires in
    let within = is-piece pieces spot.piece (omega (arith, here.begun less)) in
    let one = get_or_read pieces spot.piece c.index-piece.result.now within c.index-piece.ensures [] in
    let edited = c.in_ok-edited.ensures ∙ (c.remove.ensures.items ∙ ap (λ (cards : List Card). remove cards spot.card) (c.in_ok-cards.ensures ∙ one)) in
    ap (λ (piece : List Card). joined (set pieces spot.piece piece)) edited
    ∙ (removed-inside pieces c.args.place spot.piece spot.card here less
    ∙ ap (λ (cards : List Card). remove cards c.args.place) same)
