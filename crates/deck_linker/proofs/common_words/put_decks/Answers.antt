use Rattle.std.proofs.{Common.{◌+◌, ◌<◌, length, take, arith}}
use Rattle.deck_linker.{specs.Joins.CommonWords.{over_deck, over_decks}, proofs.CommonSteps.{decks-more, made-both, made-none, made-same}}
use Rattle.deck_linker.proofs.common_words.put_decks.Goals as goal

pub loop-based-init : goal.loop-based-init
loop-based-init c = made-none c.args.layout.now.commons c.args.lists.now.items c.requires.lists

pub loop-based-preserved : goal.loop-based-preserved
loop-based-preserved c =
    let layout = c.args.layout.now in
    let decks = c.args.decks.now in
    let i = c.loop-based.based-index in
    let based = c.based-item.result in
    let inside : i < length decks = omega arith in
    made-same layout.commons (λ name earlier. over_deck layout based name (over_decks layout name (take i decks) earlier)) (λ name words. over_decks layout name (take (i + 1) decks) words)
    c.args.lists.now.items c.put_deck.new.lists.items
    (λ name k earlier p. decks-more layout decks i based inside c.based-item.is name earlier)
    (made-both layout.commons (λ name words. over_decks layout name (take i decks) words) (over_deck layout based) c.args.lists.now.items c.loop-based.lists.items c.put_deck.new.lists.items
    c.loop-based.invariant c.in_ok-put_deck.ensures)
