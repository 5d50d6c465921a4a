-- Of no deck nothing is kept.
use Rattle.std.proofs.Common.{[], refl, sym, subst}
use Rattle.deck_assembler.specs.Joins.OldDecks.{IsAtStage}
use Rattle.deck_assembler.proofs.sized_deck.SizedDeck.new.Goals as goal

pub made-requires-clause-old_deck : goal.made-requires-clause-old_deck
made-requires-clause-old_deck c =
    let cards = c.args.cards.now in
    let deck = c.in_ok-old_deck.old_deck in (
      cards,
      record {
        standing = subst (IsAtStage c.kind_of-kind.result cards cards [] deck) (sym c.in_ok-old_deck.ensures.stage) tt;
        kinds = c.in_ok-old_deck.ensures.kind;
        same = refl;
      },
    )
