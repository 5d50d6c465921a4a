use Rattle.std.{proofs.Common.{◌∷◌, [], ap, sym, subst, take, ◌∙◌, ◌++◌, arith}, specs.List.AllZip, proofs.lemmas.List.{take_more}}
use Rattle.deck_listing.{specs.Joins.BlockWords.IsFilledWith, proofs.BlockSteps.zip-more}
use Rattle.deck_listing.proofs.blocks.filled_blocks.Goals as goal

pub loop-words-preserved : goal.loop-words-preserved
loop-words-preserved c =
    let packed = c.args.packed.now in
    let i = c.loop-words.words-index in
    let word = c.words-item.result in
    let more = take_more packed i word (omega arith) ∙ ap (λ w. take i packed ++ w ∷ []) (sym c.words-item.is) in
    subst (λ front. AllZip IsFilledWith front c.push.new.self.items) (sym more)
    (subst (AllZip IsFilledWith (take i packed ++ word ∷ [])) (sym c.in_ok-push.ensures.items)
    (zip-more IsFilledWith (take i packed) c.loop-words.blocks.items word c.in_ok-spans.spans c.loop-words.invariant (record { words = c.in_ok-spans.ensures.words; rise = c.in_ok-spans.ensures.rise })))
