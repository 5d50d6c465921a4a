-- How far a walk over the statements of a deck has come.
use Rattle.std.specs.Prelude.{ℕ, ◌≡◌, ◌++◌, List, [], map, drop, reverse}
use Rattle.definitions.specs.{Objects.{Shown, shown_of, only_listed}, Statements.Statement}
use Rattle.deck_assembler.specs.{Joins.SizedDecks.{AreSizedFrom, AreListedFrom}, declared.sized_statement.SizedStatement.SizedStatement, Joins.Walks.{Whole, all_settled, context_in, AreLined, AreLinedAs, AreNoted}, declared.deck_lines.DeckLines.DeckLines, declared.deck_walk.Making.Making}

-- some statements up to END are behind, newest first, and those to come were sized as those that are left
pub record IsWalked (whole : Whole) (left : List SizedStatement) (made : Making) : Type 0 where
  pub earlier : List Statement
  pub coming : List Statement
  pub all : reverse coming ++ earlier ≡ whole.known
  pub sized : AreSizedFrom whole.deck.kind earlier made.lines.stood (drop made.lines.stood whole.cards) left coming whole.deck.behind (reverse whole.others)
  pub lined : AreLined whole earlier made.lines
  pub noted : AreNoted whole earlier made.names

-- the statements of the listing up to END, and these behind it
abbrev pub shown_with : Whole → List Statement → List Shown
shown_with whole passed = reverse (map (shown_of (context_in whole)) (all_settled whole)) ++ map only_listed passed

-- all up to END are behind, and some of those behind it; those to come have so many cards each
pub record IsListing (whole : Whole) (left : List ℕ) (lines : DeckLines) : Type 0 where
  pub passed : List Statement
  pub coming : List Statement
  pub all : passed ++ coming ≡ reverse whole.others
  pub listed : AreListedFrom lines.stood (drop lines.stood whole.cards) left coming
  pub lined : AreLinedAs whole (shown_with whole passed) lines

-- all statements are behind
pub record IsDone (whole : Whole) (made : Making) : Type 0 where
  pub listing : IsListing whole [] made.lines
  pub noted : AreNoted whole whole.known made.names
