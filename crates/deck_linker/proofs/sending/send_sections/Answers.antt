use Rattle.std.proofs.Common.{◌+◌, ◌<◌, ◌∙◌, ap, arith, length}
use Rattle.text_ports.proofs.SendSteps.{Appends-text, part-text}
use Rattle.deck_listing.specs.Joins.Sheets.{text_of}
use Rattle.deck_linker.{specs.Joins.Sections.deck_section, proofs.InPieceLaws.{clear-again, clear-fits, clear-text, fit-at, rows-long, sent-more, sent-within, words-at, words-within}}
use Rattle.deck_linker.proofs.sending.send_sections.Goals as goal

pub bounds-words-index : goal.bounds-words-index
bounds-words-index g c =
    let inside : c.loop-index.index < length c.args.decks.now = omega arith in
    words-within c.args.layout.now c.args.decks.now c.args.words.now c.requires.words c.loop-index.index inside

pub push_deck-requires : goal.push_deck-requires
push_deck-requires g c =
    let inside : c.loop-index.index < length c.args.decks.now = omega arith in
    rows-long c.args.layout.now c.args.decks.now c.args.words.now c.requires.words c.loop-index.index c.index-decks-index.result c.index-words-index.result c.as_slice.result.now inside c.index-decks-index.is c.index-words-index.is c.as_slice.ensures.value

pub send-requires : goal.send-requires
send-requires g c =
    let layout = c.args.layout.now in
    let based = c.index-decks-index.result in
    let i = c.loop-index.index in
    let inside : i < length c.args.decks.now = omega arith in
    let put = c.push_deck.ensures layout (words-at layout c.args.decks.now c.args.words.now c.requires.words i based c.index-words-index.result c.as_slice.result.now inside c.index-decks-index.is c.index-words-index.is c.as_slice.ensures.value) in
    clear-fits c.args.sheet.now c.loop-index.sheet c.push_deck.new.text (deck_section layout based) c.requires.clear c.loop-index.invariant.clear put
    (fit-at (deck_section layout) _ c.args.decks.now i based inside c.index-decks-index.is c.requires.fit)

pub overflow_add-sent : goal.overflow_add-sent
overflow_add-sent g c =
    let layout = c.args.layout.now in
    let decks = c.args.decks.now in
    let based = c.index-decks-index.result in
    let i = c.loop-index.index in
    let inside : i < length decks = omega arith in
    let put = c.push_deck.ensures layout (words-at layout decks c.args.words.now c.requires.words i based c.index-words-index.result c.as_slice.result.now inside c.index-decks-index.is c.index-words-index.is c.as_slice.ensures.value) in
    let same = ap length (clear-text c.args.sheet.now c.loop-index.sheet c.push_deck.new.text (deck_section layout based) c.requires.clear c.loop-index.invariant.clear put) in
    let sent = sent-more (deck_section layout) decks i c.loop-index.sent based inside c.index-decks-index.is c.loop-index.invariant.count in
    let all = sent-within (deck_section layout) (i + 1) decks in
    omega (arith, sent, all, same, c.in-Ok.ensures.len, c.requires.few)

pub overflow_add-result : goal.overflow_add-result
overflow_add-result g c =
    let layout = c.args.layout.now in
    let decks = c.args.decks.now in
    let based = c.index-decks-index.result in
    let i = c.loop-index.index in
    let inside : i < length decks = omega arith in
    let put = c.push_deck.ensures layout (words-at layout decks c.args.words.now c.requires.words i based c.index-words-index.result c.as_slice.result.now inside c.index-decks-index.is c.index-words-index.is c.as_slice.ensures.value) in
    let same = ap length (clear-text c.args.sheet.now c.loop-index.sheet c.push_deck.new.text (deck_section layout based) c.requires.clear c.loop-index.invariant.clear put) in
    let sent = sent-more (deck_section layout) decks i c.loop-index.sent based inside c.index-decks-index.is c.loop-index.invariant.count in
    let all = sent-within (deck_section layout) (i + 1) decks in
    omega (arith, sent, all, same, c.in-Err.ensures.sends.0, c.requires.few)

pub returns-in-Err-clause-sends : goal.returns-in-Err-clause-sends
returns-in-Err-clause-sends g c =
    let layout = c.args.layout.now in
    let decks = c.args.decks.now in
    let based = c.index-decks-index.result in
    let i = c.loop-index.index in
    let inside : i < length decks = omega arith in
    let put = c.push_deck.ensures layout (words-at layout decks c.args.words.now c.requires.words i based c.index-words-index.result c.as_slice.result.now inside c.index-decks-index.is c.index-words-index.is c.as_slice.ensures.value) in
    let same = clear-text c.args.sheet.now c.loop-index.sheet c.push_deck.new.text (deck_section layout based) c.requires.clear c.loop-index.invariant.clear put in
    part-text (deck_section layout) _ _ _ decks i c.loop-index.sent c.in-Err.broken.sent based (text_of c.push_deck.new.text) inside c.index-decks-index.is same c.loop-index.invariant.count c.loop-index.invariant.texts c.in-Err.ensures.sends

pub returns-in-Err-clause-sheet : goal.returns-in-Err-clause-sheet
returns-in-Err-clause-sheet g c =
    let layout = c.args.layout.now in
    let decks = c.args.decks.now in
    let based = c.index-decks-index.result in
    let i = c.loop-index.index in
    let inside : i < length decks = omega arith in
    let put = c.push_deck.ensures layout (words-at layout decks c.args.words.now c.requires.words i based c.index-words-index.result c.as_slice.result.now inside c.index-decks-index.is c.index-words-index.is c.as_slice.ensures.value) in
    clear-again c.args.sheet.now c.loop-index.sheet c.push_deck.new.text (deck_section layout based) c.requires.clear c.loop-index.invariant.clear put c.send.new.sheet c.in-Err.ensures.clear

pub loop-index-preserved : goal.loop-index-preserved
loop-index-preserved g c =
    let layout = c.args.layout.now in
    let decks = c.args.decks.now in
    let based = c.index-decks-index.result in
    let i = c.loop-index.index in
    let inside : i < length decks = omega arith in
    let put = c.push_deck.ensures layout (words-at layout decks c.args.words.now c.requires.words i based c.index-words-index.result c.as_slice.result.now inside c.index-decks-index.is c.index-words-index.is c.as_slice.ensures.value) in
    let same = clear-text c.args.sheet.now c.loop-index.sheet c.push_deck.new.text (deck_section layout based) c.requires.clear c.loop-index.invariant.clear put in
    record {
      texts = Appends-text (deck_section layout) _ _ _ decks i based (text_of c.push_deck.new.text) inside c.index-decks-index.is same c.loop-index.invariant.texts c.in-Ok.ensures.sends;
      count =
          ap (λ n. c.loop-index.sent + n) (c.in-Ok.ensures.len ∙ ap length same)
          ∙ sent-more (deck_section layout) decks i c.loop-index.sent based inside c.index-decks-index.is c.loop-index.invariant.count;
      sound = c.in-Ok.ensures.count ∙ c.loop-index.invariant.sound;
      clear = clear-again c.args.sheet.now c.loop-index.sheet c.push_deck.new.text (deck_section layout based) c.requires.clear c.loop-index.invariant.clear put c.send.new.sheet c.in-Ok.ensures.clear;
    }
