-- The lines of the externals that are left complete those of all.
use Rattle.std.proofs.Common.{◌≡◌, drop}
use Rattle.definitions.specs.{LinkValues.entry_names, LinkLines.missing_lines}
use Rattle.deck_linker.specs.Joins.Lines.{with_lines}
use Rattle.deck_linker.proofs.link_lines.push_missing.Given as goal

abbrev pub invariant-loop-name : goal.invariant-loop-name
invariant-loop-name l = with_lines l.out (missing_lines (entry_names l.layout.decks) l.deck (drop l.name-index l.externals)) ≡ with_lines l.fn.out (missing_lines (entry_names l.layout.decks) l.deck l.externals)
