use Rattle.std.proofs.{Common.{◌<◌, arith, length}}
use Rattle.deck_linker.{specs.Joins.Sections.deck_section, proofs.InPieceLaws.{fit-more, left-split, words-at, words-within}}
use Rattle.deck_linker.proofs.measuring.measure_sections.Goals as goal

pub bounds-words-index : goal.bounds-words-index
bounds-words-index c =
    let inside : c.loop-index.index < length c.args.decks.now = omega arith in
    words-within c.args.layout.now c.args.decks.now c.args.words.now c.requires c.loop-index.index inside

pub section_len-requires : goal.section_len-requires
section_len-requires c =
    let inside : c.loop-index.index < length c.args.decks.now = omega arith in
    words-at c.args.layout.now c.args.decks.now c.args.words.now c.requires c.loop-index.index c.index-decks-index.result c.index-words-index.result c.as_slice.result.now inside c.index-decks-index.is c.index-words-index.is c.as_slice.ensures.value

pub loop-index-preserved : goal.loop-index-preserved
loop-index-preserved c =
    let layout = c.args.layout.now in
    let decks = c.args.decks.now in
    let i = c.loop-index.index in
    let based = c.index-decks-index.result in
    let inside : i < length decks = omega arith in
    let split = left-split (deck_section layout) decks i based inside c.index-decks-index.is in
    record {
      all = omega (arith, c.loop-index.invariant.all, c.in_ok-measure.ensures.all, split, c.in_ok-len.ensures);
      most = omega (arith, c.loop-index.invariant.most, c.in_ok-measure.ensures.most);
      fit = fit-more (deck_section layout) decks i based c.loop-index.measure.most c.in_ok-measure.measure.most inside c.index-decks-index.is c.loop-index.invariant.fit c.in_ok-measure.ensures.most
          (omega (arith, c.in_ok-measure.ensures.fits, c.in_ok-len.ensures));
    }
