-- The lines so far, and those of the decks that are left.
use Rattle.std.{proofs.Common.{◌≡◌, ◌++◌, drop}, specs.Prelude.flat_map}
use Rattle.definitions.specs.Map.{deck_line}
use Rattle.deck_linker.proofs.map.push_decks.Given as goal

abbrev pub invariant-loop-based : goal.invariant-loop-based
invariant-loop-based l = l.text ++ flat_map deck_line (drop l.based-index l.decks) ≡ l.fn.text ++ flat_map deck_line l.decks
