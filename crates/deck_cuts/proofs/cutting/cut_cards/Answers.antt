use Rattle.std.proofs.Common.{◌≡◌, arith, get_or, sym, subst}
use Rattle.definitions.specs.Cards.{Card}
use Rattle.deck_cuts.proofs.CutLaws.{IfErr-passed, cut-all, cut-ends, cut-more}
use Rattle.deck_cuts.proofs.cutting.cut_cards.Goals as goal

pub loop-place-preserved : goal.loop-place-preserved
loop-place-preserved c =
    cut-more c.args.cards.now c.loop-place.place c.copied.result c.loop-place.decks.items c.add_card.new.decks.items c.loop-place-test.true
    (subst (λ (card : Card). card ≡ get_or c.args.cards.now c.loop-place.place card) (sym c.copied.ensures) c.index-cards-place.is) c.loop-place.invariant c.in_ok-add_card.ensures.ok

pub returns-in_err-add_card-clause-err : goal.returns-in_err-add_card-clause-err
returns-in_err-add_card-clause-err c =
    IfErr-passed c.from_residual.result c.in_err-add_card.field-0.0 _ c.from_residual.ensures.1
    (cut-ends c.args.cards.now c.loop-place.place c.copied.result c.loop-place.decks.items c.in_err-add_card.field-0.0 c.loop-place-test.true
    (subst (λ (card : Card). card ≡ get_or c.args.cards.now c.loop-place.place card) (sym c.copied.ensures) c.index-cards-place.is) c.loop-place.invariant c.in_err-add_card.ensures.err)

pub returns-clause-ok : goal.returns-clause-ok
returns-clause-ok c = cut-all c.args.cards.now c.loop-place.place c.loop-place.decks.items (omega (arith, c.loop-place-test.false)) c.loop-place.invariant
