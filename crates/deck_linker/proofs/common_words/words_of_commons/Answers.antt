use Rattle.std.proofs.Common.{ap, length, subst}
use Rattle.deck_linker.{proofs.CommonSteps.{all-made, none-rise}, specs.Joins.CommonWords.{AreMade, over_decks}}
use Rattle.deck_linker.proofs.common_words.words_of_commons.Goals as goal

pub put_decks-requires-clause-lists : goal.put_decks-requires-clause-lists
put_decks-requires-clause-lists c = none-rise (length c.commons-commons.result.now) c.in_ok-lists.lists.items c.in_ok-lists.ensures

pub returns : goal.returns
returns c =
    let layout = c.args.layout.now in
    all-made layout (length c.commons-commons.result.now) c.in_ok-lists.lists.items c.put_decks.new.lists.items c.in_ok-lists.ensures (ap length c.commons-commons.ensures)
    (subst (λ decks. AreMade layout.commons (λ name words. over_decks layout name decks words) c.in_ok-lists.lists.items c.put_decks.new.lists.items) c.decks.ensures c.in_ok-put_decks.ensures)
