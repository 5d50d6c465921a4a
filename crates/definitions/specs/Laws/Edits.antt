-- An edit of a deck: what it leaves in front, where the two decks agree again behind it, and how many statements are due (ours).
-- Lists of statements are newest first, up to END. A card is known by its place, never by its text.
use Rattle.std.specs.Prelude.{ℕ, ◌≡◌, ◌≤◌, ◌+◌, List, ◌++◌, length}
use Rattle.definitions.specs.{Statements.{Statement, cards_in}, DeckKinds.kind_of_statements, Settling.settled_all, Laws.States.state_after, Laws.Agreement.{HaveSameCards, AgreeOnTail}}

-- a deck's statements before an edit and after it
pub record Edited : Type 0 where
  pub old : List Statement
  pub new : List Statement
  -- how many cards stand unchanged before the edited one
  pub before : ℕ
  -- how many cards of each deck stand before those that are the same again to the end
  pub old_behind : ℕ
  pub new_behind : ℕ

-- statements that stand in front of both decks, and have cards before the edited one alone
pub record IsUntouched (decks : Edited) (front : List Statement) : Type 0 where
  pub of_old : (behind : List Statement) × (decks.old ≡ behind ++ front)
  pub of_new : (behind : List Statement) × (decks.new ≡ behind ++ front)
  pub unchanged : length (cards_in front) ≤ decks.before

-- both decks, each split into the statements of a front and those of a tail
pub record Split : Type 0 where
  pub old_front : List Statement
  pub old_tail : List Statement
  pub new_front : List Statement
  pub new_tail : List Statement

-- the tails are the same cards behind the edited one, cut into the same statements
pub record HasCommonTail (decks : Edited) (split : Split) : Type 0 where
  pub of_old : decks.old ≡ split.old_tail ++ split.old_front
  pub of_new : decks.new ≡ split.new_tail ++ split.new_front
  pub old_reaches : decks.old_behind ≤ length (cards_in split.old_front)
  pub new_reaches : decks.new_behind ≤ length (cards_in split.new_front)
  pub same_place : length (cards_in split.old_front) + decks.new_behind ≡ length (cards_in split.new_front) + decks.old_behind
  pub same_cards : HaveSameCards split.old_tail split.new_tail

-- the decks agree from here on: a common tail, one kind, one state behind the fronts, and one value behind them of each symbol that the tail defines or reads early
pub record DoAgree (decks : Edited) (split : Split) : Type 0 where
  pub tail : HasCommonTail decks split
  pub kinds : kind_of_statements decks.old ≡ kind_of_statements decks.new
  pub states : let kind = kind_of_statements decks.new in state_after (settled_all kind split.old_front) ≡ state_after (settled_all kind split.new_front)
  pub early : let kind = kind_of_statements decks.new in AgreeOnTail kind (settled_all kind split.old_front) (settled_all kind split.new_front) split.old_tail

-- a count is at most that of the new deck's statements behind each untouched front and before each place of agreement, and so many more
pub record IsWithinDue (decks : Edited) (more count : ℕ) : Type 0 where
  pub to_end : (front : List Statement) → IsUntouched decks front → length front + count ≤ length decks.new + more
  pub to_agreement : (front : List Statement) (split : Split) → IsUntouched decks front → DoAgree decks split → length front + count ≤ length split.new_front + more
