-- The lines of the decks that are left complete those of all.
use Rattle.std.proofs.Common.{◌≡◌, drop}
use Rattle.deck_linker.specs.Joins.{DeckLines.lines_of_decks, Lines.with_lines}
use Rattle.deck_linker.proofs.link_lines.push_decks.Given as goal

abbrev pub invariant-loop-based : goal.invariant-loop-based
invariant-loop-based l = with_lines l.out (lines_of_decks l.layout l.earlier (drop l.based-index l.decks)) ≡ with_lines l.fn.out (lines_of_decks l.layout l.fn.earlier l.decks)
