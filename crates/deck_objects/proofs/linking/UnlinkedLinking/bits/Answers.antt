use Rattle.std.proofs.Common.{[]}
use Rattle.definitions.specs.declared.deck_kind.DeckKind.TheVariants.{Rel}
use Rattle.deck_objects.proofs.linking.UnlinkedLinking.bits.Goals as goal

pub returns-clause-bits : goal.returns-clause-bits
returns-clause-bits c = c.placed_bits.ensures.bits Rel [] []
