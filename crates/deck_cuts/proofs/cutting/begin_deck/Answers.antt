use Rattle.std.proofs.Common.{◌∙◌, List, [], ◌∷◌, ◌++◌, length, sym, ap, ap₂, arith}
use Rattle.definitions.specs.DeckInput.{Decks, is_taken, Deck}
use Rattle.deck_cuts.{specs.Cuts.newest_first, proofs.CutSteps.{begun_deck-made, begun_named-taken, begun_named-many, begun_named-more}, proofs.CutLaws.IsFaultOf-memory}
use Rattle.deck_cuts.proofs.cutting.begin_deck.Goals as goal

pub returns-then-is_taken-clause-err : goal.returns-then-is_taken-clause-err
returns-then-is_taken-clause-err c =
    begun_named-taken c.args.name c.args.card c.args.decks.now.items
    (sym (ap₂ is_taken c.as_slice.ensures.name c.deref.ensures.value) ∙ sym c.is_taken.ensures ∙ c.if-is_taken.true)

pub returns-then-len-ge-MOST_DECKS-clause-err : goal.returns-then-len-ge-MOST_DECKS-clause-err
returns-then-len-ge-MOST_DECKS-clause-err c =
    begun_named-many c.args.name c.args.card c.args.decks.now.items
    (sym (ap₂ is_taken c.as_slice.ensures.name c.deref.ensures.value) ∙ sym c.is_taken.ensures ∙ c.if-is_taken.false)
    (omega (arith, ap length c.deref.ensures.value))

pub returns-in_err-push-clause-err : goal.returns-in_err-push-clause-err
returns-in_err-push-clause-err c =
    IsFaultOf-memory c.from_residual.result _ _ c.from_residual.ensures.1
    (begun_named-more c.args.name c.args.card c.args.decks.now.items
    (sym (ap₂ is_taken c.as_slice.ensures.name c.deref.ensures.value) ∙ sym c.is_taken.ensures ∙ c.if-is_taken.false)
    (omega (arith, ap length c.deref.ensures.value)))

pub returns-in_err-push-2-clause-err : goal.returns-in_err-push-2-clause-err
returns-in_err-push-2-clause-err c =
    IsFaultOf-memory c.from_residual-in_err-push-2.result _ _ c.from_residual-in_err-push-2.ensures.1
    (begun_named-more c.args.name c.args.card c.args.decks.now.items
    (sym (ap₂ is_taken c.as_slice.ensures.name c.deref.ensures.value) ∙ sym c.is_taken.ensures ∙ c.if-is_taken.false)
    (omega (arith, ap length c.deref.ensures.value)))

pub returns-clause-ok : goal.returns-clause-ok
returns-clause-ok c =
    let begun = begun_named-more c.args.name c.args.card c.args.decks.now.items
    (sym (ap₂ is_taken c.as_slice.ensures.name c.deref.ensures.value) ∙ sym c.is_taken.ensures ∙ c.if-is_taken.false)
    (omega (arith, ap length c.deref.ensures.value)) in
    let made = begun_deck-made c.args.name c.args.card c.new-deck.result c.push.new.self c.new-deck.ensures c.in_ok-push.ensures.ok in
    begun
    ∙ ap (λ (decks : List Deck). Decks (newest_first decks)) (sym (c.in_ok-push-2.ensures.items ∙ ap (λ (deck : Deck). c.args.decks.now.items ++ deck ∷ []) made))
