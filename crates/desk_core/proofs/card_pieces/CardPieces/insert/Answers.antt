-- The card is put into the piece that has the place.
use Rattle.std.{proofs.Common.{List, [], set, ap, ap₂, ◌∙◌}, specs.Prelude.insert, proofs.lemmas.List.get_or_read}
use Rattle.desk_core.{specs.Joins.Language.Card, specs.Joins.Pieces.joined, proofs.PieceLaws.inserted-inside}
use Rattle.desk_core.proofs.card_pieces.CardPieces.insert.Goals as goal

pub returns : goal.returns
returns c =
    let pieces = c.short_gap.new.pieces.items in
    let spot = c.in_ok-spot.spot in
    let gap = c.in_ok-spot.ensures.gap in
    let one = get_or_read pieces spot.piece c.index-piece.result.now gap.within c.index-piece.ensures [] in
    let edited = c.in_ok-edited.ensures ∙ (c.in_ok-insert.ensures.items ∙ ap₂ (λ (cards : List Card) (card : Card). insert cards spot.card card) (c.in_ok-cards.ensures ∙ one) c.copied-2.ensures) in
    ap (λ (piece : List Card). joined (set pieces spot.piece piece)) edited
    ∙ (inserted-inside pieces c.args.place spot.piece spot.card c.args.card.now gap
    ∙ ap (λ (cards : List Card). insert cards c.args.place c.args.card.now) (c.short_gap.ensures.same ∙ c.self.view_is))
