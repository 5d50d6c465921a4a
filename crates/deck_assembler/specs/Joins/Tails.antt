-- The statements behind an edited card that stay as they were sized, and those of the old deck that they are.
use Rattle.std.specs.Prelude.{ℕ, ◌≡◌, ⊤, ◌+◌, ◌<◌, ◌≤◌, ◌⊎◌, List, [], ◌∷◌, ◌++◌, length, take}
use Rattle.cards.specs.Joins.Spans.{statement_at}
use Rattle.definitions.specs.{Cards.Card, DeckKinds.kind_of_statements, Laws.Edits.Split, Settling.{settle, settled_all}, Statements.Statement, Laws.Agreement.unnumbered, declared.deck_kind.DeckKind.DeckKind}
use Rattle.deck_assembler.specs.{Joins.Formers.known_in, Joins.Sizers.stood, declared.former.Former.Former, declared.sized_statement.SizedStatement.SizedStatement}

-- a statement is settled behind some others as one of an old deck is behind others, but for the number of cards before it
abbrev pub IsSettledAlike : DeckKind → List Statement → Statement → List Statement → Statement → Type 0
IsSettledAlike kind before other earlier statement = unnumbered (settle kind (settled_all kind before) other) ≡ unnumbered (settle kind (settled_all kind earlier) statement)

-- so are as many statements behind these, newest first
abbrev pub AreSettledAlike : DeckKind → List Statement → List Statement → List Statement → List Statement → Type 0
AreSettledAlike kind before [] earlier [] = ⊤
AreSettledAlike kind before (other ∷ others) earlier (statement ∷ statements) =
    IsSettledAlike kind (others ++ before) other (statements ++ earlier) statement × AreSettledAlike kind before others earlier statements
AreSettledAlike kind before others earlier statements = ⊥

-- so are the statements of a deck that were sized behind these, and that are left of the old one in order
abbrev pub AreKeptAlike : DeckKind → List Card → List Statement → ℕ → List Statement → List SizedStatement → List Statement → Type 0
AreKeptAlike kind cards earlier stood before [] later = ⊤
AreKeptAlike kind cards earlier stood before (sized ∷ left) [] = ⊥
AreKeptAlike kind cards earlier stood before (sized ∷ left) (other ∷ later) =
    let statement = statement_at cards (record { start = stood; count = sized.cards }) in
    IsSettledAlike kind before other earlier statement × AreKeptAlike kind cards (statement ∷ earlier) (stood + sized.cards) (other ∷ before) left later

-- these statements of an old deck and those of an edited one end alike, and so many cards of both decks are left where that begins
pub record HaveOneTail (kind : DeckKind) (old cards : List Card) (count : ℕ) (passed earlier : List Statement) : Type 0 where
  pub split : Split
  pub of_old : passed ≡ split.old_tail ++ split.old_front
  pub of_new : earlier ≡ split.new_tail ++ split.new_front
  pub old_place : stood split.old_front + count ≡ length old
  pub new_place : stood split.new_front + count ≡ length cards
  pub some : 0 < count
  pub alike : AreSettledAlike kind split.old_front split.old_tail split.new_front split.new_tail

-- statements of an edited deck end as some of the old one do
pub record HasTail (kind : DeckKind) (old cards : List Card) (count : ℕ) (earlier : List Statement) : Type 0 where
  pub passed : List Statement
  pub behind : List Statement
  pub all : behind ++ passed ≡ known_in old
  pub tail : HaveOneTail kind old cards count passed earlier

-- no more statements than a limit stand in front of the tail
pub record HasTailWithin (kind : DeckKind) (old cards : List Card) (count : ℕ) (earlier : List Statement) (limit : ℕ) : Type 0 where
  pub tail : HasTail kind old cards count earlier
  pub within : length tail.tail.split.new_front ≤ limit

-- or there is no such tail
abbrev pub HasTailIfAny : DeckKind → List Card → List Card → ℕ → List Statement → Type 0
HasTailIfAny kind old cards count earlier = (count ≡ 0) ⊎ HasTail kind old cards count earlier

-- so many statements stand in front of the tail, or all where there is none
abbrev pub StandBeforeTail : DeckKind → List Card → List Card → ℕ → List Statement → ℕ → Type 0
StandBeforeTail kind old cards count earlier from =
    ((count ≡ 0) × (from ≡ length earlier)) ⊎ ((tail : HasTail kind old cards count earlier) × (from ≡ length tail.tail.split.new_front))

-- an edited deck begins with the unchanged cards of the one before, and ends with its tail
pub record IsEditedOf (old cards : List Card) (former : Former) : Type 0 where
  pub same : take former.before old ≡ take former.before cards
  pub tail : HasTailIfAny (kind_of_statements (known_in cards)) old cards former.tail (known_in cards)
