use Rattle.std.proofs.Common.{take, map}
use Rattle.statement_coder.specs.Joins.Items.{item_as}
use Rattle.deck_assembler.specs.Joins.KeptFields.{AreTogether}
use Rattle.deck_assembler.proofs.known_bits.listed_bits.Given as goal

abbrev pub invariant-loop-item : goal.invariant-loop-item
invariant-loop-item l = AreTogether (map item_as (take l.item-index l.items)) l.known.width l.known.bits
