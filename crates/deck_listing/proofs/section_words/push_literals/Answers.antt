use Rattle.std.proofs.Common.{◌+◌, ◌∙◌, sym}
use Rattle.deck_listing.proofs.LiteralSteps.{literal_none}
use Rattle.deck_listing.proofs.section_words.push_literals.Goals as goal

pub returns-in-None : goal.returns-in-None
returns-in-None c =
    literal_none c.args.kind (c.args.base + c.args.block) c.args.literals.now c.loop-index.index c.loop-index.text _ c.loop-index.invariant (sym c.address_within.ensures ∙ c.in-None.is)
