-- The bytes so far and those of the sections that are left, and that those so far fit.
use Rattle.std.{proofs.Common.{◌≡◌, ◌+◌, ◌≤◌, drop, length, take}, specs.Prelude.flat_map}
use Rattle.deck_linker.specs.Joins.{InPieces.DoFit, Sections.deck_section}
use Rattle.deck_linker.proofs.measuring.measure_sections.Given as goal

abbrev pub invariant-loop-index : goal.invariant-loop-index
invariant-loop-index l = record {
  all : l.measure.all + length (flat_map (deck_section l.layout) (drop l.index l.decks)) ≡ l.fn.before.all + length (flat_map (deck_section l.layout) l.decks);
  most : l.fn.before.most ≤ l.measure.most;
  fit : DoFit (deck_section l.layout) l.measure.most (take l.index l.decks);
}
