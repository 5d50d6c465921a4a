use Rattle.std.proofs.Common.{◌∙◌, List, Some, ap, refl, arith, length}
use Rattle.desk_core.{specs.Desks.DeskDeck, specs.Delivering.given_back, specs.Joins.OwnNames.with_at, proofs.PlaceLaws.formed-at}
use Rattle.desk_core.proofs.deck_list.DeckList.give_back_at.Goals as goal

pub invariant_of-self : goal.invariant_of-self
invariant_of-self c =
    (formed-at (given_back (Some c.args.kept)) c.self.inside.decks.items c.args.place c.index_mut-deck.result.now c.give_back.new.self (λ d. refl) c.self.invariant (omega (arith, ap length c.self.view_is)) c.index_mut-deck.ensures.value c.give_back.ensures).0

pub returns : goal.returns
returns c =
    (formed-at (given_back (Some c.args.kept)) c.self.inside.decks.items c.args.place c.index_mut-deck.result.now c.give_back.new.self (λ d. refl) c.self.invariant (omega (arith, ap length c.self.view_is)) c.index_mut-deck.ensures.value c.give_back.ensures).1
    ∙ ap (λ (decks : List DeskDeck). with_at c.args.place (given_back (Some c.args.kept)) decks) c.self.view_is
