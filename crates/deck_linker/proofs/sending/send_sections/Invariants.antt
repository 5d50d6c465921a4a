-- Exactly the sections so far went out, the writer has not failed, and the sheet is clear.
use Rattle.std.{proofs.Common.{◌≡◌, length, take}, specs.Prelude.flat_map, specs.Io.KnownBytes.Appends}
use Rattle.deck_linker.specs.Joins.Sections.{deck_section}
use Rattle.deck_linker.proofs.sending.send_sections.Given as goal

abbrev pub invariant-loop-index : goal.invariant-loop-index
invariant-loop-index g l = record {
  texts : Appends (g.W.Write.contents l.fn.output.0) (g.W.Write.contents l.output.0) (flat_map (deck_section l.layout) (take l.index l.decks));
  count : l.sent ≡ length (flat_map (deck_section l.layout) (take l.index l.decks));
  sound : l.output.1 ≡ l.fn.output.1;
  clear : l.sheet ≡ l.fn.sheet;
}
