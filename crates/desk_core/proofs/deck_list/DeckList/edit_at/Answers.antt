use Rattle.std.proofs.Common.{◌∙◌, List, ap, refl, arith, length, is_ok, cond}
use Rattle.desk_core.{specs.Desks.DeskDeck, specs.Changing.edited_deck, specs.Joins.OwnNames.with_at, proofs.PlaceLaws.formed-if}
use Rattle.desk_core.proofs.deck_list.DeckList.edit_at.Goals as goal

pub invariant_of-self : goal.invariant_of-self
invariant_of-self c =
    (formed-if (is_ok c.edit.result) (edited_deck c.args.version c.args.by.now c.args.edits.now) c.self.inside.decks.items c.args.place c.index_mut-deck.result.now c.edit.new.self (λ d. refl) c.self.invariant (omega (arith, ap length c.self.view_is)) c.index_mut-deck.ensures.value c.edit.ensures).0

pub returns : goal.returns
returns c =
    (formed-if (is_ok c.edit.result) (edited_deck c.args.version c.args.by.now c.args.edits.now) c.self.inside.decks.items c.args.place c.index_mut-deck.result.now c.edit.new.self (λ d. refl) c.self.invariant (omega (arith, ap length c.self.view_is)) c.index_mut-deck.ensures.value c.edit.ensures).1
    ∙ ap (λ (decks : List DeskDeck). cond (is_ok c.edit.result) (with_at c.args.place (edited_deck c.args.version c.args.by.now c.args.edits.now) decks) decks) c.self.view_is
