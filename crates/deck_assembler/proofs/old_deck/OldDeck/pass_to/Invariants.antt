use Rattle.std.proofs.Common.{ℕ, ◌≡◌, ◌≤◌, List, length}
use Rattle.definitions.specs.Cards.{Card}
use Rattle.deck_assembler.specs.{Joins.Agreements.{left, HasFront, IsOfSameDeck}, Joins.Meetings.HasPiece, declared.sized_statement.SizedStatement.SizedStatement}
use Rattle.deck_assembler.proofs.old_deck.OldDeck.pass_to.Given as goal

-- its front goes on
abbrev pub invariant-statements : goal.invariant-statements
invariant-statements l = record {
  some : (cards : List Card) × HasFront cards (left l.self) l.self;
  front : (cards : List Card) → HasFront cards (left l.initial.self) l.initial.self → HasFront cards (left l.self) l.self;
  piece : (tail : List SizedStatement) (rest : ℕ) → rest ≤ l.count → HasPiece l.initial.self tail rest → HasPiece l.self tail rest;
  deck : IsOfSameDeck l.initial.self l.self;
  stage : l.self.stage ≡ l.initial.self.stage;
}

abbrev pub decreases-statements : goal.decreases-statements
decreases-statements l = length (left l.self)
