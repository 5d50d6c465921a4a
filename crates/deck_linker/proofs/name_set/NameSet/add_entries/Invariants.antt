use Rattle.std.proofs.Common.{◌≡◌, drop}
use Rattle.deck_linker.specs.Joins.Names.{with_entries}
use Rattle.deck_linker.proofs.name_set.NameSet.add_entries.Given as goal

abbrev pub invariant-loop-entry : goal.invariant-loop-entry
invariant-loop-entry l = with_entries (drop l.entry-index l.entries) l.self ≡ with_entries l.entries l.fn.self
