use Rattle.std.proofs.{Common.{◌∙◌, ◌*◌, ◌++◌, ◌∷◌, [], map, ap, ap₂, arith}, lemmas.List.take_all}
use Rattle.definitions.specs.{Coding.{counted_item_bits, words_needed}, Kinds.word_bits, StatementItems.known, Words.cut}
use Rattle.statement_coder.{specs.Joins.Items.item_as, specs.Joins.WordItems.known_words, proofs.ListLaws.{kept-trans, words_more, length-cut}}
use Rattle.statement_coder.proofs.listing.push_item.Goals as goal

pub loop-index-preserved : goal.loop-index-preserved
loop-index-preserved c =
    let word = word_bits c.args.kind in
    let count = words_needed word c.args.item.now in
    let number = counted_item_bits (count * word) c.args.item.now in
    let before = map item_as c.args.list.now.items in
    record {
      kept = kept-trans c.args.list.now.items c.loop-index.list.items c.push.new.list.items c.loop-index.invariant.kept c.push.ensures.kept;
      told = c.in_ok-push.ensures.pushed
          ∙ ap₂ (λ front item. front ++ item ∷ []) c.loop-index.invariant.told (c.known_word.ensures ∙ ap (known word) c.counted_item_word.ensures)
          ∙ words_more before word (cut word count number) c.loop-index.index (omega (arith, length-cut word count number));
    }

pub returns-clause-pushed : goal.returns-clause-pushed
returns-clause-pushed c =
    let word = word_bits c.args.kind in
    let count = words_needed word c.args.item.now in
    let number = counted_item_bits (count * word) c.args.item.now in
    c.loop-index.invariant.told
    ∙ ap (λ words. map item_as c.args.list.now.items ++ known_words word words)
    (take_all c.loop-index.index (cut word count number) (omega (arith, length-cut word count number)))
