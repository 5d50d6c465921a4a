use Rattle.std.proofs.Common.{◌∙◌, List, ap, sym, subst, find}
use Rattle.desk_core.{specs.Desks.{DeskDeck, is_named}, specs.Joins.OwnNames.HaveOwnNames, proofs.PlaceLaws.own-added}
use Rattle.desk_core.proofs.deck_list.DeckList.push.Goals as goal

pub invariant_of-self-2 : goal.invariant_of-self-2
invariant_of-self-2 c =
    let none = ap (λ (decks : List DeskDeck). find (is_named c.args.deck.name) decks) c.self.view_is ∙ c.requires in
    subst HaveOwnNames (sym c.in_ok-push.ensures.items) (own-added c.self.inside.decks.items c.args.deck none c.self.invariant)
