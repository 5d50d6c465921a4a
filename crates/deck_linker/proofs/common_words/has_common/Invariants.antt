-- None of the rows so far is.
use Rattle.std.proofs.Common.{◌≡◌, drop}
use Rattle.deck_linker.specs.Joins.CommonWords.{has_common}
use Rattle.deck_linker.proofs.common_words.has_common.Given as goal

abbrev pub invariant-loop-row : goal.invariant-loop-row
invariant-loop-row l = has_common l.layout.commons (drop l.row-index l.rows) ≡ has_common l.layout.commons l.rows
