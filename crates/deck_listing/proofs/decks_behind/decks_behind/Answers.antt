use Rattle.std.proofs.Common.{◌∙◌, ap₂}
use Rattle.deck_listing.{specs.Joins.LinesBehind.begun_in, proofs.BehindLaws.begun-all}
use Rattle.deck_listing.proofs.decks_behind.decks_behind.Goals as goal

pub returns : goal.returns
returns c =
    c.begun_in.ensures ∙ ap₂ begun_in c.cards.ensures c.as_slice.ensures.value
    ∙ begun-all c.args.object.now c.parts.result.now c.parts.ensures
