use Rattle.std.proofs.Common.{◌∙◌, ◌++◌, ap₂}
use Rattle.definitions.specs.Objects.{object_of}
use Rattle.deck_listing.{specs.Joins.ListedParts.parts_text, proofs.ListableLaws.parts-listable, proofs.ListingLaws.listing-same}
use Rattle.deck_listing.proofs.whole.push_listing.Goals as goal

pub push_parts-requires-clause-listable : goal.push_parts-requires-clause-listable
push_parts-requires-clause-listable c = parts-listable c.args.object.now.cards c.parts.result.now (object_of c.args.object.now) c.parts.ensures

pub returns : goal.returns
returns c =
    c.push_parts.ensures
    ∙ ap₂ (λ before text. before ++ text) c.make_room.ensures
    (ap₂ (λ name cards. parts_text name cards c.parts.result.now) c.name.ensures c.cards.ensures
    ∙ listing-same c.args.object.now.cards c.parts.result.now (object_of c.args.object.now) c.parts.ensures)
