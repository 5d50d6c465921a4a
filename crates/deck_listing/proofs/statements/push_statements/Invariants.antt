use Rattle.std.proofs.Common.{◌≡◌, ◌+◌, ◌++◌, drop, length}
use Rattle.deck_listing.specs.Joins.ListedParts.{lines_text}
use Rattle.deck_listing.proofs.statements.push_statements.Given as goal

-- the text so far and that of the statements that are left is that of all
abbrev pub invariant-loop-shown : goal.invariant-loop-shown
invariant-loop-shown l = record {
  cards : l.next + length l.ahead ≡ length l.cards;
  text : l.text ++ lines_text l.parts.kind l.parts.bases l.parts.fields l.next l.ahead (drop l.shown-index l.parts.lines.items)
      ≡ l.fn.text ++ lines_text l.parts.kind l.parts.bases l.parts.fields 0 l.cards l.parts.lines.items;
}
