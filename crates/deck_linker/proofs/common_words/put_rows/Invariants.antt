use Rattle.std.proofs.Common.{take}
use Rattle.deck_linker.specs.Joins.CommonWords.{AreMade, over_rows}
use Rattle.deck_linker.proofs.common_words.put_rows.Given as goal

abbrev pub invariant-loop-index : goal.invariant-loop-index
invariant-loop-index l = AreMade l.layout.commons (over_rows l.layout l.based (take l.index l.rows)) l.initial.lists.items l.lists.items
