use Rattle.std.proofs.Common.{◌^◌, ◌∙◌, refl}
use Rattle.parcel_packer.{specs.Joins.Filling.as_stored, proofs.OverLaws.some_stored}
use Rattle.deck_linker.proofs.ImageLaws.{section-written, some_words}
use Rattle.deck_linker.proofs.common_image.push_section.Goals as goal

pub returns : goal.returns
returns c =
    let layout = c.args.layout.now in
    let words = c.args.words.now in
    c.push_words.ensures
    ∙ section-written layout c.args.common.now c.args.text.now c.push_head.new.text c.name.result.now c.base.result c.base-2.result (as_stored words) _ c.is_past.result c.if-is_past.false c.is_past.ensures
    c.requires.words (λ none. some_words words words _ c.if-is_empty.ensures refl refl (some_stored 0 (2 ^ 20) words c.requires.rise none)) refl c.push_head.ensures c.name.ensures c.base.ensures c.base-2.ensures
