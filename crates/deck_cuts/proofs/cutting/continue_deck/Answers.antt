use Rattle.std.proofs.Common.{length, refl, ap, arith}
use Rattle.deck_cuts.proofs.CutSteps.{continued-more}
use Rattle.deck_cuts.proofs.cutting.continue_deck.Goals as goal

pub returns-clause-ok : goal.returns-clause-ok
returns-clause-ok c =
    continued-more c.args.number c.args.card c.args.decks.now.items c.args.decks.now.len c.in-Some.deck.now c.push.new.self c.args.decks.now.ok.0
    (c.in-Some.ensures.variant.0 refl) c.in-Some.ensures.value (omega (arith, ap length c.cards.ensures.cards)) c.in_ok-push.ensures.ok
