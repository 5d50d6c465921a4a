-- The lines so far, and those of the entries that are left.
use Rattle.std.proofs.Common.{◌≡◌, ◌++◌, drop}
use Rattle.definitions.specs.Map.{entry_lines}
use Rattle.deck_linker.proofs.map.push_entries.Given as goal

abbrev pub invariant-loop-entry : goal.invariant-loop-entry
invariant-loop-entry l = l.text ++ entry_lines l.layout.commons l.earlier l.based (drop l.entry-index l.entries) ≡ l.fn.text ++ entry_lines l.layout.commons l.earlier l.based l.entries
