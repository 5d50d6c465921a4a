use Rattle.std.proofs.Common.{◌≡◌, ◌++◌, List, length}
use Rattle.deck_assembler.specs.{Joins.Agreements.left, Joins.Heads.AreHead, Joins.Meetings.cards_of, declared.sized_statement.SizedStatement.SizedStatement}
use Rattle.deck_assembler.proofs.head_deck.taken_head.Given as goal

-- what goes on with the statements that are left goes on with those that were taken
abbrev pub invariant-statements : goal.invariant-statements
invariant-statements l = record {
  head : (rest : List SizedStatement) → AreHead l.before l.cards (left l.deck) rest → AreHead l.before 0 (left l.initial.deck) (l.head.items ++ rest);
  cards : l.cards ≡ cards_of l.head.items;
}

abbrev pub decreases-statements : goal.decreases-statements
decreases-statements l = length (left l.deck)
