use Rattle.std.proofs.Common.{◌≡◌, ◌≤◌, ◌++◌, List, length, take, drop}
use Rattle.deck_objects.specs.declared.lines.Line.{Line}
use Rattle.deck_assembler.specs.Joins.Heads.{AreHeadLines, cards_of_lines}
use Rattle.deck_assembler.proofs.former.head_lines.Given as goal

-- what goes on with the lines that are left goes on with those that were taken
abbrev pub invariant-lines : goal.invariant-lines
invariant-lines l = record {
  head : (rest : List Line) → AreHeadLines l.before l.cards l.left rest → AreHeadLines l.before 0 l.lines (take l.count l.lines ++ rest);
  left : drop l.count l.lines ≡ l.left;
  within : l.count ≤ length l.lines;
  cards : l.cards ≡ cards_of_lines (take l.count l.lines);
}

abbrev pub decreases-lines : goal.decreases-lines
decreases-lines l = length l.left
