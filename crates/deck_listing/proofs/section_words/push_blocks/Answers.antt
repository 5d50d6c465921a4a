use Rattle.std.proofs.{Common.{◌<◌, ◌∙◌, Some, ap, length, sym, arith}, lemmas.Option.slice_get-get_or}
use Rattle.parcel_packer.specs.Joins.Filling.{as_stored}
use Rattle.deck_listing.{specs.Joins.BlockWords.AreWordsOf, proofs.BlockSteps.zip-at, proofs.ImageLineSteps.{row_more, row_put}}
use Rattle.deck_listing.proofs.section_words.push_blocks.Goals as goal

pub loop-index-preserved : goal.loop-index-preserved
loop-index-preserved c = λ linking cards object are_parts words.
    let rows = c.args.rows.now in
    let blocks = c.args.blocks.now in
    let i = c.loop-index.index in
    let row = c.index-rows-index.result in
    let spans = c.index-blocks-index.result in
    let inside : i < length rows = omega arith in
    let within : i < length blocks = omega arith in
    let of_row = zip-at (AreWordsOf linking object) rows blocks i row spans words (slice_get-get_or rows i row inside ∙ ap Some (sym c.index-rows-index.is)) (slice_get-get_or blocks i spans within ∙ ap Some (sym c.index-blocks-index.is)) in
    row_more object.kind linking object c.args.base rows i row c.args.text.now c.loop-index.text c.push_block.new.text inside
    (c.loop-index.invariant linking cards object are_parts words)
    (row_put object.kind linking object c.args.base row _ c.loop-index.text c.push_block.new.text c.index-rows-index.is
    (c.push_block.ensures linking cards object are_parts (ap as_stored c.as_slice.ensures.value ∙ of_row.words)))
