use Rattle.std.proofs.Common.{List, subst}
use Rattle.definitions.specs.{Cards.Card, DeckInput.Deck, Objects.object_of}
use Rattle.deck_objects.specs.Joins.PartsOf.{ArePartsOf}
use Rattle.deck_assembler.proofs.assembling.object_of.Goals as goal

pub new-requires : goal.new-requires
new-requires c =
    subst (λ (cards : List Card). let deck : Deck = record { name = c.args.name; cards = cards } in ArePartsOf cards c.in_ok-parts.parts (object_of deck))
    c.deref.ensures.value (c.in_ok-parts.ensures.parts c.args.name)
