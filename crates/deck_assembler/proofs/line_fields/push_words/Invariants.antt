use Rattle.std.proofs.Common.{take, map}
use Rattle.statement_coder.specs.Joins.Items.{item_as}
use Rattle.deck_assembler.specs.Joins.KeptFields.{ArePut}
use Rattle.deck_assembler.proofs.line_fields.push_words.Given as goal

abbrev pub invariant-loop-item : goal.invariant-loop-item
invariant-loop-item l = ArePut l.fn.width (map item_as (take l.item-index l.items)) l.initial.words.items l.words.items
