use Rattle.std.proofs.Common.{◌∙◌, subst, sym}
use Rattle.definitions.{proofs.BlockLaws.object-blocks, specs.Objects.object_of}
use Rattle.deck_listing.specs.Joins.Walking.{DoNamesDiffer}
use Rattle.deck_linker.proofs.BeyondSteps.{parts-beyond}
use Rattle.deck_linker.proofs.beyond.has_beyond.Goals as goal

pub returns : goal.returns
returns c =
    let object = c.args.object.now in
    c.parts_beyond.ensures ∙ parts-beyond object.cards c.parts.result.now (object_of object) c.parts.ensures (subst DoNamesDiffer (sym c.parts.ensures.rows) (object-blocks object))
