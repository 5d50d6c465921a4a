use Rattle.std.proofs.Common.{drop, map}
use Rattle.statement_coder.specs.Joins.Items.{item_as}
use Rattle.deck_listing.specs.Joins.WordLines.{AreJoined}
use Rattle.deck_listing.proofs.field_lines.joined_fields.Given as goal

abbrev pub invariant-loop-item : goal.invariant-loop-item
invariant-loop-item l = AreJoined l.bases l.all (map item_as (drop l.item-index l.items)) (map item_as l.items)
