-- The statements of a deck stay in one of its kind, and its head in one of another.
use Rattle.std.proofs.Common.{sym, subst, ◌∙◌}
use Rattle.deck_assembler.{specs.Joins.SizedDecks.IsSizedDeck, proofs.HeadDeckLaws.{stays-beside, stays-whole}}
use Rattle.deck_assembler.proofs.sized_deck.SizedDeck.parted.Goals as goal

pub returns-clause-beside : goal.returns-clause-beside
returns-clause-beside c = λ cards unchanged same_end.
    let is = subst (IsSizedDeck c.args.old.cards.now) (sym c.self.view_is) c.requires in
    stays-beside c.args.kind c.args.old cards _ c.in_ok-old_deck.old_deck is c.in_ok-old_deck.ensures.same c.in_ok-old_deck.ensures.other unchanged same_end

pub returns-clause-old_deck : goal.returns-clause-old_deck
returns-clause-old_deck c = λ kinds.
    let is = subst (IsSizedDeck c.args.old.cards.now) (sym c.self.view_is) c.requires in
    stays-whole c.args.kind c.args.old _ c.in_ok-old_deck.old_deck is (is.kind ∙ kinds) (c.in_ok-old_deck.ensures.same (is.kind ∙ kinds))

pub returns-clause-former : goal.returns-clause-former
returns-clause-former c =
    let here = subst (IsSizedDeck c.args.old.cards.now) (sym c.self.view_is) c.requires in
    record { kind = here.kind; symbols = here.symbols; literals = here.literals }
