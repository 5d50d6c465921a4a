use Rattle.std.proofs.Common.{◌∙◌, ap}
use Rattle.definitions.specs.Objects.{object_of}
use Rattle.deck_listing.{specs.Joins.ListedParts.flagged_lines, proofs.ListingLaws.errors-same}
use Rattle.deck_listing.proofs.whole.errors.Goals as goal

pub returns : goal.returns
returns c =
    c.flagged_lines.ensures ∙ ap flagged_lines c.as_slice.ensures.value
    ∙ errors-same c.args.object.now.cards c.parts.result.now (object_of c.args.object.now) c.parts.ensures
