-- The old deck beside the statements of an edited one that were taken.
use Rattle.std.specs.Prelude.{ℕ, ◌≡◌, ⊤, ◌≤◌, ◌<◌, ◌+◌, List, [], ◌∷◌, ◌++◌, Option, true, is_some, take, drop, length, reverse}
use Rattle.cards.specs.{Joins.Spans.statement_at, declared.statement_list.Span.Span}
use Rattle.definitions.specs.{Cards.Card, Laws.Edits.{Edited, IsUntouched}, Statements.Statement, declared.deck_kind.DeckKind.DeckKind}
use Rattle.deck_assembler.specs.{Joins.Agreements.{left, HasFront, HaveSameEnd}, Joins.Formers.known_in, Joins.SizedDecks.{IsSizedStatement, AreSizedFrom}, Joins.Sizers.{stood, IsNext, IsSizer}, Joins.Tails.{AreKeptAlike, HaveOneTail}, declared.old_deck.OldDeck.OldDeck, declared.old_deck.Stage.Stage, declared.sized_statement.SizedStatement.SizedStatement, declared.sizer.Sizer.Sizer}
use Rattle.deck_assembler.specs.declared.old_deck.Stage.TheVariants as stages

-- statements in order are sized behind these of a deck, and so many of its cards stood before them
abbrev pub AreKeptFrom : DeckKind → List Card → List Statement → ℕ → List SizedStatement → Type 0
AreKeptFrom kind cards earlier stood [] = ⊤
AreKeptFrom kind cards earlier stood (sized ∷ later) =
    let statement = statement_at cards (record { start = stood; count = sized.cards }) in
    IsSizedStatement kind earlier stood (drop stood cards) sized statement × AreKeptFrom kind cards (statement ∷ earlier) (stood + sized.cards) later

-- in front of the edited card the same statements were taken of both decks, and these of the old one are sized behind them
pub record IsInFront (old cards : List Card) (earlier : List Statement) (sized : List SizedStatement) (deck : OldDeck) : Type 0 where
  pub later : List Statement
  pub behind : List ℕ
  pub others : List Statement
  pub within : stood earlier ≤ length old
  pub ahead : deck.ahead.now ≡ drop (stood earlier) old
  pub rest : AreSizedFrom deck.kind earlier (stood earlier) (drop (stood earlier) old) sized later behind others
  pub unchanged : take deck.before old ≡ take deck.before cards
  pub all : reverse later ++ earlier ≡ known_in old

-- where both decks agree: all that is left of the old one stays, and each statement since is settled as it was but for its number
pub record IsInTail (kind : DeckKind) (old cards : List Card) (earlier : List Statement) (deck : OldDeck) : Type 0 where
  pub kept : AreKeptFrom kind cards earlier (stood earlier) (left deck)
  pub passed : List Statement
  pub later : List Statement
  pub all : reverse later ++ passed ≡ known_in old
  pub tail : HaveOneTail kind old cards (length deck.ahead.now) passed earlier
  pub alike : AreKeptAlike kind cards earlier (stood earlier) passed (left deck) later

-- what is left of the old deck behind these statements of the new one
abbrev pub IsAtStage : DeckKind → List Card → List Card → List Statement → OldDeck → Stage → Type 0
IsAtStage kind old cards earlier deck stages.Front = IsInFront old cards earlier (left deck) deck
IsAtStage kind old cards earlier deck stages.Between = HasFront old (left deck) deck
IsAtStage kind old cards earlier deck stages.Tail = IsInTail kind old cards earlier deck
IsAtStage kind old cards earlier deck stages.Over = ⊤

-- the old deck goes on with these statements of the new one
pub record IsKeptOn (kind : DeckKind) (old cards : List Card) (earlier : List Statement) (deck : OldDeck) : Type 0 where
  pub standing : IsAtStage kind old cards earlier deck deck.stage
  pub kinds : deck.kind ≡ kind
  pub same : HaveSameEnd deck.behind old cards

-- the statement of a span is the next one behind these; those before it are taken, and the old deck goes on with it
pub record IsOnSpan (kind : DeckKind) (old cards : List Card) (earlier : List Statement) (span : Span) (sizer : Sizer) (deck : OldDeck) : Type 0 where
  pub sizer_is : IsSizer kind cards earlier sizer
  pub next : IsNext cards earlier span.count (statement_at cards span)
  pub kept_on : IsKeptOn kind old cards earlier deck

-- statements that stand untouched in front of the old deck and of these statements
pub record StandsInFront (old : List Card) (new front : List Statement) (deck : OldDeck) : Type 0 where
  pub decks : Edited
  pub untouched : IsUntouched decks front
  pub of_old : decks.old ≡ known_in old
  pub of_new : decks.new ≡ new
  pub before : decks.before ≤ deck.before
  pub stage : deck.stage ≡ stages.Front

-- they go on with the statement of a span
pub record GoesOn (old cards : List Card) (earlier : List Statement) (span : Span) (deck : OldDeck) : Type 0 where
  pub others : List Statement
  pub front : List Statement
  pub stands : StandsInFront old (others ++ statement_at cards span ∷ earlier) front deck
  pub longer : length earlier < length front

-- a statement is kept, and the front goes on
pub record IsFrontOn (old new : OldDeck) (found : Option SizedStatement) : Type 0 where
  pub some : is_some found ≡ true
  pub stage : new.stage ≡ stages.Front
  pub before : new.before ≡ old.before
