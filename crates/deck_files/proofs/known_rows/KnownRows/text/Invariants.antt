-- The lines of the files so far, and behind them those of the files that are left.
use Rattle.std.{proofs.Common.{◌≡◌, ◌++◌, map}, specs.Prelude.vec_items}
use Rattle.deck_files.specs.KnownTexts.{rows_text}
use Rattle.deck_files.proofs.known_rows.KnownRows.text.Given as goal

abbrev pub invariant-loop-name : goal.invariant-loop-name
invariant-loop-name l = l.text ++ rows_text (map (λ e. (vec_items e.0, e.1)) l.name-iterator) ≡ rows_text l.self.files
