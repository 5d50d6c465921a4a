use Rattle.std.proofs.Common.{◌∙◌, List, ap, position}
use Rattle.desk_core.{specs.Desks.DeskDeck, specs.Joins.OwnNames.has_lease, proofs.PlaceLaws.placed}
use Rattle.desk_core.proofs.deck_list.DeckList.place_leased.Goals as goal

pub returns : goal.returns
returns c =
    placed (has_lease c.args.number) c.place_leased.result c.args.self.now c.as_slice.ensures.names
    (c.place_leased.ensures ∙ ap (λ (decks : List DeskDeck). position (has_lease c.args.number) decks) c.as_slice.ensures.decks)
