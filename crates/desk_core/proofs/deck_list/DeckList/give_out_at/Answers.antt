use Rattle.std.proofs.Common.{◌∙◌, List, ap, refl, arith, length, is_ok, cond}
use Rattle.desk_core.{specs.Desks.DeskDeck, specs.Claiming.given, specs.Joins.OwnNames.with_at, proofs.PlaceLaws.formed-if}
use Rattle.desk_core.proofs.deck_list.DeckList.give_out_at.Goals as goal

pub invariant_of-self : goal.invariant_of-self
invariant_of-self c =
    (formed-if (is_ok c.give_out.result) (given c.args.number) c.self.inside.decks.items c.args.place c.index_mut-deck.result.now c.give_out.new.self (λ d. refl) c.self.invariant (omega (arith, ap length c.self.view_is)) c.index_mut-deck.ensures.value c.give_out.ensures.deck).0

pub returns-clause-decks : goal.returns-clause-decks
returns-clause-decks c =
    (formed-if (is_ok c.give_out.result) (given c.args.number) c.self.inside.decks.items c.args.place c.index_mut-deck.result.now c.give_out.new.self (λ d. refl) c.self.invariant (omega (arith, ap length c.self.view_is)) c.index_mut-deck.ensures.value c.give_out.ensures.deck).1
    ∙ ap (λ (decks : List DeskDeck). cond (is_ok c.give_out.result) (with_at c.args.place (given c.args.number) decks) decks) c.self.view_is
