use Rattle.std.proofs.Common.{List, drop}
use Rattle.definitions.specs.{Cards.Card, Objects.Object}
use Rattle.deck_objects.specs.Joins.PartsOf.{ArePartsOf}
use Rattle.deck_listing.specs.Joins.Walking.{AreWalked}
use Rattle.deck_listing.proofs.word_lines.put_lines.Given as goal

abbrev pub invariant-loop-line : goal.invariant-loop-line
invariant-loop-line g l = (cards : List Card) (object : Object) → ArePartsOf cards l.parts object →
    AreWalked l.parts.kind l.parts.bases l.parts.fields (g.L.Linking.linking l.linking) object.coded (drop l.line-index l.line-items) l.blocks.items
