-- The card takes its place in its piece.
use Rattle.std.proofs.{Common.{◌<◌, List, [], length, set, sym, ap, ap₂, subst, ◌∙◌, arith}, lemmas.List.get_or_read}
use Rattle.desk_core.{specs.Joins.Language.Card, specs.Joins.Pieces.joined, proofs.PieceLaws.{is-piece, replaced-inside}}
use Rattle.desk_core.proofs.card_pieces.CardPieces.replace.Goals as goal

pub returns : goal.returns
returns c =
    let pieces = c.short_spot.new.pieces.items in
    let spot = c.in_ok-spot.spot in
    let here = c.in_ok-spot.ensures.spot in
    let same = c.short_spot.ensures.same ∙ c.self.view_is in
    let less = subst (λ (cards : List Card). c.args.place < length cards) (sym same) c.requires in
    let within = is-piece pieces spot.piece (omega (arith, here.begun less)) in
    let one = get_or_read pieces spot.piece c.index-piece.result.now within c.index-piece.ensures [] in
    let edited = c.in_ok-edited.ensures ∙ ap₂ (λ (cards : List Card) (card : Card). set cards spot.card card) (c.in_ok-cards.ensures ∙ one) c.copied-2.ensures in
    ap (λ (piece : List Card). joined (set pieces spot.piece piece)) edited
    ∙ (replaced-inside pieces c.args.place spot.piece spot.card c.args.card.now here less
    ∙ ap (λ (cards : List Card). set cards c.args.place c.args.card.now) same)
