-- The lines so far, and those of the decks that are left.
use Rattle.std.proofs.Common.{◌≡◌, ◌++◌, drop}
use Rattle.deck_linker.specs.Joins.MapLines.{entries_of_decks}
use Rattle.deck_linker.proofs.map.push_entries_of.Given as goal

abbrev pub invariant-loop-based : goal.invariant-loop-based
invariant-loop-based l = l.text ++ entries_of_decks l.layout.commons l.earlier (drop l.based-index l.decks) ≡ l.fn.text ++ entries_of_decks l.layout.commons l.fn.earlier l.decks
