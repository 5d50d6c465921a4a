use Rattle.cards.proofs.FaultLaws.{places-low}
use Rattle.cards.proofs.carrying.carry.Goals as goal

-- edits that apply to some cards name places of a deck
pub carried_places-requires-clause-low : goal.carried_places-requires-clause-low
carried_places-requires-clause-low c = λ k edit within is. places-low c.args.edits.now c.requires.applies.0 c.requires.applies.2 c.requires.applies.1 k edit within is
