use Rattle.std.proofs.Common.{◌∙◌, List, ap, position}
use Rattle.desk_core.{specs.Desks.{DeskDeck, is_named}, proofs.PlaceLaws.placed}
use Rattle.desk_core.proofs.deck_list.DeckList.place_of.Goals as goal

pub returns : goal.returns
returns c =
    placed (is_named c.args.name.now) c.place_named.result c.args.self.now c.as_slice.ensures.names
    (c.place_named.ensures ∙ ap (λ (decks : List DeskDeck). position (is_named c.args.name.now) decks) c.as_slice.ensures.decks)
