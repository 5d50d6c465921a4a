use Rattle.std.{proofs.Common.{◌∷◌, [], ap, sym, subst, take, ◌∙◌, ◌++◌, arith}, specs.List.AllZip, proofs.lemmas.List.{take_more}}
use Rattle.deck_listing.proofs.BlockSteps.{zip-more}
use Rattle.deck_linker.specs.Joins.InPieces.{AreDeckWords}
use Rattle.deck_linker.proofs.linked_decks.words_of_decks.Goals as goal

pub loop-based-preserved : goal.loop-based-preserved
loop-based-preserved c =
    let words_of = AreDeckWords c.args.layout.now in
    let decks = c.args.decks.now in
    let i = c.loop-based.based-index in
    let based = c.based-item.result in
    let more = take_more decks i based (omega arith) ∙ ap (λ b. take i decks ++ b ∷ []) (sym c.based-item.is) in
    subst (λ front. AllZip words_of front c.push.new.self.items) (sym more)
    (subst (AllZip words_of (take i decks ++ based ∷ [])) (sym c.in_ok-push.ensures.items)
    (zip-more words_of (take i decks) c.loop-based.words.items based c.in_ok-blocks.blocks c.loop-based.invariant c.in_ok-blocks.ensures.words))
