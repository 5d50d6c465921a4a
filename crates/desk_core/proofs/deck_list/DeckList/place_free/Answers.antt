use Rattle.std.proofs.Common.{◌∙◌, List, ap, position}
use Rattle.desk_core.{specs.Desks.DeskDeck, specs.Claiming.is_free, proofs.PlaceLaws.placed}
use Rattle.desk_core.proofs.deck_list.DeckList.place_free.Goals as goal

pub returns : goal.returns
returns c =
    placed is_free c.place_free.result c.args.self.now c.as_slice.ensures.names
    (c.place_free.ensures ∙ ap (λ (decks : List DeskDeck). position is_free decks) c.as_slice.ensures.decks)
