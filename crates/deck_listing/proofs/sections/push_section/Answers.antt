use Rattle.std.proofs.Common.{◌∙◌}
use Rattle.definitions.specs.{LinkValues.linking_of, Objects.object_of}
use Rattle.deck_listing.proofs.SectionSteps.{section_put}
use Rattle.deck_listing.proofs.sections.push_section.Goals as goal

pub returns : goal.returns
returns c = λ layout based words same placed.
    let object = object_of c.args.object.now in
    section_put layout based object c.args.base c.as_slice.result.now c.parts-parts.result.now.kind c.args.text.now c.push_head.new.text c.push_object_words.new.text same placed
    (c.as_slice.ensures.name ∙ c.name.ensures) c.parts-parts.ensures.kind c.push_head.ensures
    (c.push_object_words.ensures (linking_of layout based) c.args.object.now.cards object c.parts-parts.ensures words)
