-- How many statements of an edited deck are coded again, where the lines of the object before are taken over.
use Rattle.std.specs.Prelude.{ℕ, ◌≡◌, ◌+◌, ◌^◌, ◌<◌, ◌≤◌, ◌⊎◌, nat_lt, nat_le, Bool, true, false, not, ◌||◌, List, [], ◌∷◌, ◌++◌, drop, length, reverse}
use Rattle.definitions.specs.{Cards.Card, Laws.Edits.{Edited, IsUntouched}, DeckKinds.kind_of_statements, Laws.Rebound.{context_from, is_rebound}, Settled.Settled, Settling.settled_all, StatementItems.Context, Statements.Statement, declared.deck_kind.DeckKind.DeckKind}
use Rattle.deck_assembler.specs.{Joins.FormerLines.{AreBeside, AreOfTail}, Joins.Formers.known_in, Joins.SizedDecks.AreSizedFrom, Joins.Sizers.stood, Joins.Tails.StandBeforeTail, Joins.Walks.{Whole, context_in}, declared.former.Former.Former, declared.former_lines.FormerLines.FormerLines, declared.sized_statement.SizedStatement.SizedStatement}

-- one where it is so
abbrev pub one_where : Bool → ℕ
one_where true = 1
one_where false = 0

-- whether a statement behind so many others has a line in the object before: it is one of the first, or of those from a place on
abbrev pub has_line : ℕ → ℕ → ℕ → Bool
has_line front from place = nat_lt place front || nat_le from place

-- one where a statement behind so many has no line in the object before, or is bound otherwise
abbrev pub one_due : Context → Context → ℕ → ℕ → Settled → ℕ → ℕ
one_due old new front from settled place = one_where (not (has_line front from place) || is_rebound old new settled)

-- how many settled statements, newest first, are coded at most
abbrev pub code_due : Context → Context → ℕ → ℕ → List Settled → ℕ
code_due old new front from [] = 0
code_due old new front from (settled ∷ earlier) = code_due old new front from earlier + one_due old new front from settled (length earlier)

-- both decks, what is known of the old one, the statements of a front, and how many stand before the tail
pub record CodePlan : Type 0 where
  pub decks : Edited
  pub old : Context
  pub front : List Statement
  pub from : ℕ

-- the front stands untouched, and the edited deck has these statements
pub record IsPlanned (known : List Statement) (plan : CodePlan) : Type 0 where
  pub untouched : IsUntouched plan.decks plan.front
  pub of_new : plan.decks.new ≡ known

-- the lines in front are there
pub record IsBesideFront (kind : DeckKind) (cards : List Card) (plan : CodePlan) (earlier : List Statement) (standing : ℕ) (former : FormerLines) : Type 0 where
  pub coming : List Statement
  pub all : reverse coming ++ earlier ≡ plan.decks.old
  pub few : plan.decks.before ≤ former.before
  pub beside : AreBeside kind cards plan.old earlier coming standing former

-- the lines of the tail are there
pub record IsBesideTail (kind : DeckKind) (plan : CodePlan) (earlier coming : List Statement) (standing : ℕ) (former : FormerLines) : Type 0 where
  pub between : List Statement
  pub of : AreOfTail kind plan.old earlier coming between standing former
  pub place : (length earlier + length between ≡ plan.from) ⊎ ((between ≡ []) × (plan.from ≤ length earlier))

-- there is no tail
pub record HasNoTail (cards : List Card) (plan : CodePlan) (earlier coming : List Statement) (former : FormerLines) : Type 0 where
  pub from : plan.from ≡ length earlier + length coming
  pub at_end : former.tail.at ≡ length cards

-- a walk comes to each line that there is in front, and in the tail
pub record IsDueBeside (kind : DeckKind) (cards : List Card) (plan : CodePlan) (earlier coming : List Statement) (standing : ℕ) (former : FormerLines) : Type 0 where
  pub stands : standing ≡ stood earlier
  pub front : length earlier < length plan.front → length earlier < plan.from → IsBesideFront kind cards plan earlier standing former
  pub tail : HasNoTail cards plan earlier coming former ⊎ IsBesideTail kind plan earlier coming standing former

-- how many statements of a deck are coded at most
abbrev pub code_due_in : Whole → CodePlan → List Statement → ℕ
code_due_in whole plan statements = code_due plan.old (context_in whole) (length plan.front) plan.from (settled_all whole.deck.kind statements)

-- a walk over a deck has come to these statements that are left; a count has come from a base to this, within what is due so far
pub record IsWalkedDue (whole : Whole) (plan : CodePlan) (base : ℕ) (left : List SizedStatement) (standing : ℕ) (former : FormerLines) (coded : ℕ) : Type 0 where
  pub earlier : List Statement
  pub coming : List Statement
  pub all : reverse coming ++ earlier ≡ whole.known
  pub sized : AreSizedFrom whole.deck.kind earlier standing (drop standing whole.cards) left coming whole.deck.behind (reverse whole.others)
  pub beside : IsDueBeside whole.deck.kind whole.cards plan earlier coming standing former
  pub within : coded ≤ base + code_due_in whole plan earlier

-- how many settled statements are bound otherwise than in an old deck, newest first
abbrev pub bound_otherwise : Context → Context → List Settled → ℕ
bound_otherwise old new [] = 0
bound_otherwise old new (settled ∷ earlier) = bound_otherwise old new earlier + one_where (is_rebound old new settled)

-- a count has come from a base to this: by one at least for each of these statements that is bound otherwise, unless that is beyond its greatest value
abbrev pub RisesRebound : Whole → Context → ℕ → List Statement → ℕ → Type 0
RisesRebound whole old base statements coded = base + length statements < 2 ^ 64 → base + bound_otherwise old (context_in whole) (settled_all whole.deck.kind statements) ≤ coded

-- a walk over a deck has come to these statements that are left; each so far that is bound otherwise than in an old deck has been counted
pub record IsWalkedAnew (whole : Whole) (old : Context) (base : ℕ) (left : List SizedStatement) (standing coded : ℕ) : Type 0 where
  pub earlier : List Statement
  pub coming : List Statement
  pub all : reverse coming ++ earlier ≡ whole.known
  pub sized : AreSizedFrom whole.deck.kind earlier standing (drop standing whole.cards) left coming whole.deck.behind (reverse whole.others)
  pub few : coded ≤ base + length earlier
  pub anew : RisesRebound whole old base earlier coded

-- what is due in a deck with these cards
abbrev pub code_due_of : List Card → CodePlan → ℕ
code_due_of cards plan =
    let known = known_in cards in code_due plan.old (context_from known) (length plan.front) plan.from (settled_all (kind_of_statements known) known)

-- a plan for the deck that was edited from one with these cards; where that is of another kind there is no tail
pub record IsPlanOf (kind : DeckKind) (old cards : List Card) (former : Former) (plan : CodePlan) : Type 0 where
  pub same : (former.kind ≡ kind) ⊎ (former.tail ≡ 0)
  pub of_old : plan.decks.old ≡ known_in old
  pub of_new : IsPlanned (known_in cards) plan
  pub known : plan.old ≡ context_from (known_in old)
  pub few : plan.decks.before ≤ former.before
  pub begins : StandBeforeTail kind old cards former.tail (known_in cards) plan.from

-- each statement of a deck that is bound otherwise than in the one before is counted
abbrev pub RisesReboundOf : List Card → List Card → ℕ → ℕ → Type 0
RisesReboundOf old cards count now =
    let known = known_in cards in
    count + length known < 2 ^ 64 → count + bound_otherwise (context_from (known_in old)) (context_from known) (settled_all (kind_of_statements known) known) ≤ now
