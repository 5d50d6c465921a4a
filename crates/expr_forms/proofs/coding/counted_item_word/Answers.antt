use Rattle.std.proofs.Common.{◌∙◌, sym}
use Rattle.expr_forms.proofs.CodedLaws.{counted_item_word}
use Rattle.expr_forms.proofs.coding.counted_item_word.Goals as goal

pub returns : goal.returns
returns c =
    let is = c.number_in_places.ensures in
    let here = rw (c.words_needed.ensures.words, c.word_bits.ensures) at is in
    here ∙ sym (counted_item_word c.args.kind c.args.index c.args.item.now c.requires)
