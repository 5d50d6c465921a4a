use Rattle.std.proofs.Common.{◌+◌, ◌++◌, ◌∙◌, ap, arith}
use Rattle.definitions.specs.DeckInput.{Deck}
use Rattle.deck_listing.specs.Joins.Sheets.{text_of}
use Rattle.deck_linker.{specs.Joins.InPieces.deck_text, proofs.InPieceLaws.{clear-again, clear-fits, clear-text, fit-at}, proofs.ListedLaws.{Appends-listing, listing-sent, listings-within, part-listing}}
use Rattle.deck_linker.proofs.sending.send_listings.Goals as goal

pub send-requires : goal.send-requires
send-requires g c =
    let deck = c.object-item.result in
    let put = c.push_listing.ensures ∙ ap (λ (d : Deck). c.loop-object.sheet ++ deck_text d) c.object.ensures in
    clear-fits c.args.sheet.now c.loop-object.sheet c.push_listing.new.text (deck_text deck) c.requires.clear c.loop-object.invariant.clear put
    (fit-at deck_text _ c.args.objects.now c.loop-object.object-index deck c.loop-object-test.true c.object-item.is c.requires.fit)

pub overflow_add-sent : goal.overflow_add-sent
overflow_add-sent g c =
    let objects = c.args.objects.now in
    let i = c.loop-object.object-index in
    let deck = c.object-item.result in
    let text = text_of c.push_listing.new.text in
    let put = c.push_listing.ensures ∙ ap (λ (d : Deck). c.loop-object.sheet ++ deck_text d) c.object.ensures in
    let same = clear-text c.args.sheet.now c.loop-object.sheet c.push_listing.new.text (deck_text deck) c.requires.clear c.loop-object.invariant.clear put in
    let sent = listing-sent objects i c.loop-object.sent deck text c.loop-object-test.true c.object-item.is same c.loop-object.invariant.count in
    let all = listings-within (i + 1) objects in
    omega (arith, sent, all, c.in-Ok.ensures.len, c.requires.few)

pub overflow_add-result : goal.overflow_add-result
overflow_add-result g c =
    let objects = c.args.objects.now in
    let i = c.loop-object.object-index in
    let deck = c.object-item.result in
    let text = text_of c.push_listing.new.text in
    let put = c.push_listing.ensures ∙ ap (λ (d : Deck). c.loop-object.sheet ++ deck_text d) c.object.ensures in
    let same = clear-text c.args.sheet.now c.loop-object.sheet c.push_listing.new.text (deck_text deck) c.requires.clear c.loop-object.invariant.clear put in
    let sent = listing-sent objects i c.loop-object.sent deck text c.loop-object-test.true c.object-item.is same c.loop-object.invariant.count in
    let all = listings-within (i + 1) objects in
    omega (arith, sent, all, c.in-Err.ensures.sends.0, c.requires.few)

pub returns-in-Err-clause-sends : goal.returns-in-Err-clause-sends
returns-in-Err-clause-sends g c =
    let deck = c.object-item.result in
    let put = c.push_listing.ensures ∙ ap (λ (d : Deck). c.loop-object.sheet ++ deck_text d) c.object.ensures in
    let same = clear-text c.args.sheet.now c.loop-object.sheet c.push_listing.new.text (deck_text deck) c.requires.clear c.loop-object.invariant.clear put in
    part-listing _ _ _ c.args.objects.now c.loop-object.object-index c.loop-object.sent c.in-Err.broken.sent deck (text_of c.push_listing.new.text)
    c.loop-object-test.true c.object-item.is same c.loop-object.invariant.count c.loop-object.invariant.texts c.in-Err.ensures.sends

pub returns-in-Err-clause-sheet : goal.returns-in-Err-clause-sheet
returns-in-Err-clause-sheet g c =
    let deck = c.object-item.result in
    let put = c.push_listing.ensures ∙ ap (λ (d : Deck). c.loop-object.sheet ++ deck_text d) c.object.ensures in
    clear-again c.args.sheet.now c.loop-object.sheet c.push_listing.new.text (deck_text deck) c.requires.clear c.loop-object.invariant.clear put c.send.new.sheet c.in-Err.ensures.clear

pub loop-object-preserved : goal.loop-object-preserved
loop-object-preserved g c =
    let objects = c.args.objects.now in
    let i = c.loop-object.object-index in
    let deck = c.object-item.result in
    let text = text_of c.push_listing.new.text in
    let put = c.push_listing.ensures ∙ ap (λ (d : Deck). c.loop-object.sheet ++ deck_text d) c.object.ensures in
    let same = clear-text c.args.sheet.now c.loop-object.sheet c.push_listing.new.text (deck_text deck) c.requires.clear c.loop-object.invariant.clear put in
    record {
      texts = Appends-listing _ _ _ objects i deck text c.loop-object-test.true c.object-item.is same c.loop-object.invariant.texts c.in-Ok.ensures.sends;
      count = ap (λ n. c.loop-object.sent + n) c.in-Ok.ensures.len ∙ listing-sent objects i c.loop-object.sent deck text c.loop-object-test.true c.object-item.is same c.loop-object.invariant.count;
      sound = c.in-Ok.ensures.count ∙ c.loop-object.invariant.sound;
      clear = clear-again c.args.sheet.now c.loop-object.sheet c.push_listing.new.text (deck_text deck) c.requires.clear c.loop-object.invariant.clear put c.send.new.sheet c.in-Ok.ensures.clear;
    }
