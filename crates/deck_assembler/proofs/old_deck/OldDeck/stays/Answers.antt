use Rattle.deck_assembler.proofs.old_deck.OldDeck.stays.Goals as goal

pub returns-in-Tail-clause-stays : goal.returns-in-Tail-clause-stays
returns-in-Tail-clause-stays c = c.stays_in_tail.ensures c.args.cards.now c.args.sizer.now
