-- The sections so far, and those of the decks that are left.
use Rattle.std.{proofs.Common.{◌≡◌, ◌++◌, drop}, specs.Prelude.flat_map}
use Rattle.deck_linker.specs.Joins.Sections.{deck_section}
use Rattle.deck_linker.proofs.image.push_decks.Given as goal

abbrev pub invariant-loop-based : goal.invariant-loop-based
invariant-loop-based l = l.text ++ flat_map (deck_section l.layout) (drop l.based-index l.decks) ≡ l.fn.text ++ flat_map (deck_section l.layout) l.decks
