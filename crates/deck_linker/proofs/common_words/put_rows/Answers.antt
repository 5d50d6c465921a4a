use Rattle.std.proofs.{Common.{◌+◌, ◌^◌, ◌<◌, ◌∙◌, List, Some, ap, length, sym, subst, take, arith}, lemmas.Option.slice_get-get_or, lemmas.Slice.Zip.AllZip-long}
use Rattle.definitions.specs.LinkValues.{linking_of}
use Rattle.parcel_packer.specs.{Joins.Filling.{DoSpansRise, as_stored}, declared.word_spans.WordSpan.WordSpan}
use Rattle.deck_listing.{specs.Joins.BlockWords.AreWordsOf, proofs.BlockSteps.zip-at}
use Rattle.deck_linker.{specs.Joins.CommonWords.{over_row, over_rows}, proofs.CommonSteps.{made-both, made-none, made-same, rows-more}}
use Rattle.deck_linker.proofs.common_words.put_rows.Goals as goal

pub loop-index-init : goal.loop-index-init
loop-index-init c = made-none c.args.layout.now.commons c.args.lists.now.items c.requires.lists

pub bounds-blocks-index : goal.bounds-blocks-index
bounds-blocks-index c =
    let long = AllZip-long (AreWordsOf (linking_of c.args.layout.now c.args.based.now) c.args.based.now.object) c.args.rows.now c.args.blocks.now c.requires.words in
    omega (arith, long)

pub put_row-requires-clause-rise : goal.put_row-requires-clause-rise
put_row-requires-clause-rise c =
    let linking = linking_of c.args.layout.now c.args.based.now in
    let object = c.args.based.now.object in
    let rows = c.args.rows.now in
    let blocks = c.args.blocks.now in
    let i = c.loop-index.index in
    let row = c.index-rows-index.result in
    let spans = c.index-blocks-index.result in
    let long = AllZip-long (AreWordsOf linking object) rows blocks c.requires.words in
    let inside : i < length rows = omega arith in
    let within : i < length blocks = omega (arith, long, inside) in
    let of_row = zip-at (AreWordsOf linking object) rows blocks i row spans c.requires.words (slice_get-get_or rows i row inside ∙ ap Some (sym c.index-rows-index.is)) (slice_get-get_or blocks i spans within ∙ ap Some (sym c.index-blocks-index.is)) in
    subst (λ (words : List WordSpan). DoSpansRise 0 words (2 ^ 20)) (sym c.as_slice.ensures.value) of_row.rise

pub loop-index-preserved : goal.loop-index-preserved
loop-index-preserved c =
    let layout = c.args.layout.now in
    let based = c.args.based.now in
    let rows = c.args.rows.now in
    let blocks = c.args.blocks.now in
    let i = c.loop-index.index in
    let row = c.index-rows-index.result in
    let spans = c.index-blocks-index.result in
    let long = AllZip-long (AreWordsOf (linking_of layout based) based.object) rows blocks c.requires.words in
    let inside : i < length rows = omega arith in
    let within : i < length blocks = omega (arith, long, inside) in
    let of_row = zip-at (AreWordsOf (linking_of layout based) based.object) rows blocks i row spans c.requires.words (slice_get-get_or rows i row inside ∙ ap Some (sym c.index-rows-index.is)) (slice_get-get_or blocks i spans within ∙ ap Some (sym c.index-blocks-index.is)) in
    let words = as_stored c.as_slice.result.now in
    let same = ap as_stored c.as_slice.ensures.value ∙ of_row.words in
    made-same layout.commons (λ name earlier. over_row row words name (over_rows layout based (take i rows) name earlier)) (over_rows layout based (take (i + 1) rows)) c.args.lists.now.items c.put_row.new.lists.items
    (λ name k earlier p. rows-more layout based rows i row words c.requires.names inside c.index-rows-index.is same name earlier)
    (made-both layout.commons (over_rows layout based (take i rows)) (over_row row words) c.args.lists.now.items c.loop-index.lists.items c.put_row.new.lists.items c.loop-index.invariant c.in_ok-put_row.ensures)
