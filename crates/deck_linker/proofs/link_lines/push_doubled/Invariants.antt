-- The lines of the entries that are left complete those of all.
use Rattle.std.proofs.Common.{◌≡◌, drop}
use Rattle.definitions.specs.LinkLines.{doubled_lines}
use Rattle.deck_linker.specs.Joins.Lines.{with_lines}
use Rattle.deck_linker.proofs.link_lines.push_doubled.Given as goal

abbrev pub invariant-loop-entry : goal.invariant-loop-entry
invariant-loop-entry l = with_lines l.out (doubled_lines l.earlier l.deck (drop l.entry-index l.entries)) ≡ with_lines l.fn.out (doubled_lines l.earlier l.deck l.entries)
