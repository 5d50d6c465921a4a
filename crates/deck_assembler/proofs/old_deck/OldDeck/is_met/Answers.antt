use Rattle.deck_assembler.proofs.AlikeLaws.{same-agrees}
use Rattle.deck_assembler.proofs.old_deck.OldDeck.is_met.Goals as goal

pub returns-then-is_same-clause-alike : goal.returns-then-is_same-clause-alike
returns-then-is_same-clause-alike c = λ _. same-agrees c.args.self.now c.args.sizer.now.symbols (c.is_same.ensures c.if-is_same.true)
