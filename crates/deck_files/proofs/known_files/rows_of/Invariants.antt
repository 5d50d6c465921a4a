-- What is left to be read, behind what is known so far, shows what the whole text does.
use Rattle.std.proofs.Common.{◌≡◌, Some, length}
use Rattle.definitions.specs.InputLines.{lines_of}
use Rattle.deck_files.specs.KnownTexts.{rows_behind, rows_in}
use Rattle.deck_files.proofs.known_files.rows_of.Given as goal

abbrev pub invariant-loop-line : goal.invariant-loop-line
invariant-loop-line l = rows_behind l.last (Some l.rows.files) (lines_of l.input.0.now) ≡ rows_in l.last l.text

abbrev pub decreases-loop-line : goal.decreases-loop-line
decreases-loop-line l = length l.input.0.now
