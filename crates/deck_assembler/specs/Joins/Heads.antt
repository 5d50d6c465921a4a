-- The neutral statements in front of an edited card, which stay in a deck of another kind.
use Rattle.std.specs.{Prelude.{ℕ, ◌≡◌, ⊤, ◌+◌, ◌≤◌, true, List, [], ◌∷◌, ◌++◌, Some, take, length}, List.AllByRecursion}
use Rattle.definitions.specs.{Cards.Card, DeckKinds.kind_of_statements, Laws.Edits.{Edited, IsUntouched}, Operations.is_neutral, Statements.Statement, declared.deck_kind.DeckKind.DeckKind}
use Rattle.operations.specs.Joins.OperationsAs.{operation_as}
use Rattle.deck_objects.specs.declared.lines.{CodedLine.CodedLine, Line.Line}
use Rattle.deck_assembler.specs.{Joins.Agreements.left, Joins.DeckParts.{DeckPiece, sized_in}, Joins.Formers.known_in, Joins.Meetings.{cards_of, IsShort}, Joins.OldDecks.{IsKeptOn, StandsInFront}, declared.old_deck.OldCards.OldCards, declared.old_deck.OldDeck.OldDeck, declared.sized_statement.SizedStatement.SizedStatement}
use Rattle.deck_assembler.specs.declared.old_deck.Stage.TheVariants as stages

-- a statement behind so many cards is neutral, and ends within so many
pub record IsOfHead (before stood : ℕ) (sized : SizedStatement) : Type 0 where
  pub neutral : is_neutral (Some (operation_as sized.operation)) ≡ true
  pub within : stood + sized.cards ≤ before

-- the first statements in order, as far as they are neutral and end within so many cards
abbrev pub AreHead : ℕ → ℕ → List SizedStatement → List SizedStatement → Type 0
AreHead before stood [] [] = ⊤
AreHead before stood [] (made ∷ more) = ⊥
AreHead before stood (sized ∷ left) [] = IsOfHead before stood sized → ⊥
AreHead before stood (sized ∷ left) (made ∷ more) = (made ≡ sized) × (IsOfHead before stood sized × AreHead before (stood + sized.cards) left more)

-- they are all of an old deck that stays in front
pub record IsHeadDeck (kind : DeckKind) (before : ℕ) (cards : List Card) (sized : List SizedStatement) (deck : OldDeck) : Type 0 where
  pub kind_is : deck.kind ≡ kind
  pub head : AreHead before 0 sized (left deck)
  pub before_is : deck.before ≡ cards_of (left deck)
  pub ahead : cards_of (left deck) ≤ length cards → deck.ahead.now ≡ take (cards_of (left deck)) cards
  pub behind : deck.behind ≡ 0
  pub stage : deck.stage ≡ stages.Front

-- all of an old deck, which stays as far as it stands in front
pub record IsOldDeck (kind : DeckKind) (old : OldCards) (pieces : List DeckPiece) (deck : OldDeck) : Type 0 where
  pub kind_is : deck.kind ≡ kind
  pub ahead : deck.ahead.now ≡ old.cards.now
  pub all : left deck ≡ sized_in pieces
  pub begun : deck.statements.items ≡ []
  pub pieces_are : deck.pieces.items ≡ pieces
  pub before_is : deck.before ≡ old.before
  pub behind : deck.behind ≡ old.behind
  pub stage : deck.stage ≡ stages.Front

-- its pieces are short, and none is begun
pub record IsWholeDeck (old : OldCards) (deck : OldDeck) : Type 0 where
  pub stage : deck.stage ≡ stages.Front
  pub before_is : deck.before ≡ old.before
  pub begun : deck.statements.items ≡ []
  pub short : AllByRecursion IsShort deck.pieces.items
  pub behind : deck.behind ≡ old.behind

-- what stays of an old deck, which that begins with, stands in front of an edited one: all that stands untouched in front of both
pub record BeginsBeside (kind : DeckKind) (old cards : List Card) (before : ℕ) (deck : OldDeck) : Type 0 where
  pub of : List Card
  pub of_old : (behind : List Statement) × (known_in old ≡ behind ++ known_in of)
  pub kept_on : IsKeptOn kind of cards [] deck
  pub stands : (decks : Edited) (front : List Statement) → decks.old ≡ known_in old → decks.new ≡ known_in cards → decks.before ≤ before → kind_of_statements (known_in cards) ≡ kind →
      IsUntouched decks front → StandsInFront of (known_in cards) front deck

-- a line behind those of so many cards is that of a neutral statement, and ends within so many
pub record IsLineOfHead (before stood : ℕ) (line : Line) : Type 0 where
  pub neutral : (coded : CodedLine) × ((line.coded ≡ Some coded) × (is_neutral (Some (operation_as coded.operation)) ≡ true))
  pub within : stood + line.cards ≤ before

-- the first lines, as far as they are those of neutral statements and end within so many cards
abbrev pub AreHeadLines : ℕ → ℕ → List Line → List Line → Type 0
AreHeadLines before stood [] [] = ⊤
AreHeadLines before stood [] (first ∷ others) = ⊥
AreHeadLines before stood (line ∷ lines) [] = IsLineOfHead before stood line → ⊥
AreHeadLines before stood (line ∷ lines) (first ∷ others) = (first ≡ line) × (IsLineOfHead before stood line × AreHeadLines before (stood + line.cards) lines others)

-- how many cards lines have
abbrev pub cards_of_lines : List Line → ℕ
cards_of_lines [] = 0
cards_of_lines (line ∷ lines) = line.cards + cards_of_lines lines
