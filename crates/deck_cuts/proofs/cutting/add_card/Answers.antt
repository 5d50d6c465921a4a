use Rattle.std.proofs.Common.{◌≡◌, OnOk, IfErr, sym, subst}
use Rattle.definitions.specs.DeckInput.{Input, Decks}
use Rattle.deck_cuts.{specs.declared.cutting.CardRole.TheVariants.{Begins, Continues}, specs.Cuts.{newest_first, IsFaultOf}, proofs.CutSteps.with_card-role}
use Rattle.deck_cuts.proofs.cutting.add_card.Goals as goal

pub returns-in-Begins-clause-ok : goal.returns-in-Begins-clause-ok
returns-in-Begins-clause-ok c =
    subst (λ (input : Input). OnOk c.begin_deck.result (input ≡ Decks (newest_first c.begin_deck.new.decks.items)))
    (sym (with_card-role c.args.number c.args.card (newest_first c.args.decks.now.items) (Begins c.in-Begins.name) c.in-Begins.ensures)) c.begin_deck.ensures.ok

pub returns-in-Begins-clause-err : goal.returns-in-Begins-clause-err
returns-in-Begins-clause-err c =
    subst (λ (input : Input). IfErr c.begin_deck.result (IsFaultOf input))
    (sym (with_card-role c.args.number c.args.card (newest_first c.args.decks.now.items) (Begins c.in-Begins.name) c.in-Begins.ensures)) c.begin_deck.ensures.err

pub returns-in-Continues-clause-ok : goal.returns-in-Continues-clause-ok
returns-in-Continues-clause-ok c =
    subst (λ (input : Input). OnOk c.continue_deck.result (input ≡ Decks (newest_first c.continue_deck.new.decks.items)))
    (sym (with_card-role c.args.number c.args.card (newest_first c.args.decks.now.items) Continues c.in-Continues.ensures)) c.continue_deck.ensures.ok

pub returns-in-Continues-clause-err : goal.returns-in-Continues-clause-err
returns-in-Continues-clause-err c =
    subst (λ (input : Input). IfErr c.continue_deck.result (IsFaultOf input))
    (sym (with_card-role c.args.number c.args.card (newest_first c.args.decks.now.items) Continues c.in-Continues.ensures)) c.continue_deck.ensures.err
