-- Where an old deck and an edited one are found to agree again, found from a place where they do.
use Rattle.std.specs.{Prelude.{ℕ, ◌≡◌, ◌+◌, ◌<◌, ◌≤◌, ◌⊎◌, List, [], ◌∷◌, ◌++◌, Bool, Option, None, Some, true, false, length, map, reverse}, List.AllByRecursion}
use Rattle.cards.specs.{Joins.Spans.statement_at, declared.statement_list.Span.Span}
use Rattle.definitions.specs.{Cards.Card, DeckKinds.has_end, Laws.Edits.Edited, Settled.defined, Settling.settled_all, Statements.{Statement, statements_of}, Laws.States.state_after, declared.deck_kind.DeckKind.DeckKind}
use Rattle.deck_assembler.specs.{Joins.Agreements.{left, HasFront, IsSameFront, StandAlike}, Joins.DeckParts.{DeckPiece, sized_in}, Joins.FirstSymbols.symbol_in, Joins.FirstStatements.all_statements, Joins.Formers.known_in, Joins.OldDecks.{GoesOn, IsFrontOn, IsKeptOn, IsOnSpan}, Joins.SizedDecks.IsSizedStatement, Joins.Sizers.{stood, ahead}, Stays.IsAsBefore, declared.old_deck.OldDeck.OldDeck, declared.old_deck.Stage.Stage, declared.sized_statement.SizedStatement.SizedStatement, declared.sizer.Sizer.Sizer}
use Rattle.deck_assembler.specs.declared.old_deck.Stage.TheVariants as stages

-- how many cards statements have that were sized
abbrev pub cards_of : List SizedStatement → ℕ
cards_of [] = 0
cards_of (sized ∷ later) = sized.cards + cards_of later

-- a piece has a few statements
abbrev pub IsShort : DeckPiece → Type 0
IsShort piece = length piece.statements ≤ 128

-- a statement was the next one of the old deck, in the piece that was begun or in the next one
abbrev pub IsNextOf : OldDeck → OldDeck → SizedStatement → Type 0
IsNextOf old new sized =
    ((old.statements.items ≡ sized ∷ new.statements.items) × (old.pieces.items ≡ new.pieces.items))
    ⊎ ((old.statements.items ≡ []) × ((piece : DeckPiece) × (old.pieces.items ≡ piece ∷ new.pieces.items) × (piece.statements ≡ sized ∷ new.statements.items)))

-- a piece is begun, if nothing was left of the one before and there is another
abbrev pub IsBegunOf : OldDeck → OldDeck → Type 0
IsBegunOf old new =
    ((old.statements.items ≡ new.statements.items) × (old.pieces.items ≡ new.pieces.items))
    ⊎ ((old.statements.items ≡ []) × ((piece : DeckPiece) × (old.pieces.items ≡ piece ∷ new.pieces.items) × (piece.statements ≡ new.statements.items) × (0 < length new.statements.items)))

-- a piece of the old deck that is left, or its end: these statements and so many cards are left from there on
pub record HasPiece (deck : OldDeck) (tail : List SizedStatement) (count : ℕ) : Type 0 where
  pub passed : List DeckPiece
  pub pieces : List DeckPiece
  pub split : deck.pieces.items ≡ passed ++ pieces
  pub tail_is : tail ≡ sized_in pieces
  pub cards : length deck.ahead.now ≡ cards_of (deck.statements.items ++ sized_in passed) + count

-- behind these statements an edited deck agrees with the old one where these statements and so many cards are left of that
pub record AreMeeting (kind : DeckKind) (old cards : List Card) (behind : ℕ) (tail : List SizedStatement) (count : ℕ) (front : List Statement) : Type 0 where
  pub few : count ≤ behind
  pub place : stood front + count ≡ length cards
  pub stands : (others : List Statement) × (known_in cards ≡ others ++ front)
  pub agree : (deck : OldDeck) → deck.kind ≡ kind → HasFront old tail deck →
      (deck.state ≡ state_after (settled_all kind front)) × StandAlike kind deck.ahead.now (symbol_in deck.symbols) (λ name. defined name (settled_all kind front)) tail

-- where they agree, and which statements of the edited deck stand in front of that
pub record HasMeeting (kind : DeckKind) (old cards : List Card) (behind : ℕ) (tail : List SizedStatement) (count : ℕ) : Type 0 where
  pub front : List Statement
  pub meeting : AreMeeting kind old cards behind tail count front
  pub whole : length front + length tail ≡ length (known_in cards)

-- both decks agree where so many statements are left of both, and at each later place
pub record AgreeFrom (kind : DeckKind) (old cards : List Card) (before behind rest : ℕ) : Type 0 where
  pub old_front : (later earlier : List Statement) → known_in old ≡ later ++ earlier → stood earlier ≤ before → rest ≤ length later
  pub new_front : (later earlier : List Statement) → known_in cards ≡ later ++ earlier → stood earlier ≤ before → rest ≤ length later
  pub meets : (later earlier : List Statement) (tail : List SizedStatement) (count : ℕ) → known_in old ≡ later ++ earlier → length later ≤ rest → length tail ≡ length later →
      stood earlier + count ≡ length old → HasMeeting kind old cards behind tail count

-- both decks of an edit, the cards of which stand so in them
pub record StandApart (old cards : List Card) (before behind : ℕ) (decks : Edited) : Type 0 where
  pub of_old : decks.old ≡ known_in old
  pub of_new : decks.new ≡ known_in cards
  pub old_before : before ≤ decks.old_behind
  pub new_before : before ≤ decks.new_behind
  pub count : ℕ
  pub old_count : decks.old_behind + count ≡ length old
  pub new_count : decks.new_behind + count ≡ length cards
  pub few : count ≤ behind

-- in front of the edited card: the decks agree later on
pub record WillAgreeLater (kind : DeckKind) (old cards : List Card) (limit : ℕ) (earlier : List Statement) (deck : OldDeck) : Type 0 where
  pub begun : length deck.statements.items < 128
  pub short : AllByRecursion IsShort deck.pieces.items
  pub within : stood earlier ≤ deck.before
  pub rest : ℕ
  pub agree : AgreeFrom kind old cards deck.before deck.behind rest
  pub limit_is : limit + rest ≡ length (known_in cards) + 128

-- behind it: they agree at a piece of the old deck that is left, and no more statements than these stand in front of that
pub record WillMeet (kind : DeckKind) (old cards : List Card) (limit : ℕ) (earlier : List Statement) (deck : OldDeck) : Type 0 where
  pub tail : List SizedStatement
  pub count : ℕ
  pub piece : HasPiece deck tail count
  pub has : HasMeeting kind old cards deck.behind tail count
  pub reached : length earlier ≤ length has.front
  pub due : length has.front ≤ limit

-- where they agree: what is left is cut alike
pub record IsCutAlike (cards : List Card) (earlier : List Statement) (deck : OldDeck) : Type 0 where
  pub later : List Statement
  pub all : known_in cards ≡ reverse later ++ earlier
  pub counts : map (λ (sized : SizedStatement). sized.cards) (left deck) ≡ map (λ (statement : Statement). length statement.cards) later

-- and no more statements than a limit were taken where that begins
pub record IsSoon (cards : List Card) (limit : ℕ) (earlier : List Statement) (deck : OldDeck) : Type 0 where
  pub reached : length cards ≤ stood earlier + length deck.ahead.now
  pub soon : (middle front : List Statement) → earlier ≡ middle ++ front → stood front + length deck.ahead.now ≡ length cards → length front ≤ limit

-- an edited deck of more statements than this limit is found to agree with the old one before so many of it are taken
abbrev pub WillAgreeAt : DeckKind → List Card → List Card → ℕ → List Statement → OldDeck → Stage → Type 0
WillAgreeAt kind old cards limit earlier deck stages.Front = WillAgreeLater kind old cards limit earlier deck
WillAgreeAt kind old cards limit earlier deck stages.Between = WillMeet kind old cards limit earlier deck
WillAgreeAt kind old cards limit earlier deck stages.Tail = IsCutAlike cards earlier deck × IsSoon cards limit earlier deck
WillAgreeAt kind old cards limit earlier deck stages.Over = ⊥

abbrev pub WillAgree : DeckKind → List Card → List Card → ℕ → List Statement → OldDeck → Type 0
WillAgree kind old cards limit earlier deck = WillAgreeAt kind old cards limit earlier deck deck.stage

-- the statement of a span is the next one of a deck of more statements than a limit
pub record IsNextKnown (cards : List Card) (earlier : List Statement) (span : Span) (limit : ℕ) : Type 0 where
  pub others : List Statement
  pub all : known_in cards ≡ others ++ statement_at cards span ∷ earlier
  pub unended : has_end earlier ≡ false
  pub more : limit < length (known_in cards)

-- behind a statement the decks are still found to agree in time; where it isn't kept there was time left
pub record IsDue (kind : DeckKind) (old cards : List Card) (limit : ℕ) (earlier : List Statement) (span : Span) (new : OldDeck) (found : Option SizedStatement) : Type 0 where
  pub sized : found ≡ None → length earlier < limit
  pub will : WillAgree kind old cards limit (statement_at cards span ∷ earlier) new

-- wherever a span is the next one of these cards, the old deck goes on behind it, this one kept or none: that is kept where an untouched front goes on, and the decks are still found to agree in time
pub record GoesBehind (cards : List Card) (span : Span) (sizer : Sizer) (deck new : OldDeck) (found : Option SizedStatement) : Type 0 where
  pub on : (kind : DeckKind) (old : List Card) (earlier : List Statement) → IsOnSpan kind old cards earlier span sizer deck → IsKeptOn kind old cards (statement_at cards span ∷ earlier) new
  pub front : (kind : DeckKind) (old : List Card) (earlier : List Statement) → IsOnSpan kind old cards earlier span sizer deck → GoesOn old cards earlier span deck → IsFrontOn deck new found
  pub due : (kind : DeckKind) (old : List Card) (earlier : List Statement) (limit : ℕ) → IsOnSpan kind old cards earlier span sizer deck → IsNextKnown cards earlier span limit → WillAgree kind old cards limit earlier deck →
      IsDue kind old cards limit earlier span new found

-- a statement stays, the first of the piece that was begun: it is that of the span as it was sized, and settled as one of the old deck
pub record StaysFirst (cards : List Card) (span : Span) (sizer : Sizer) (deck new : OldDeck) : Type 0 where
  pub some : 0 < length new.statements.items
  pub that : (sized : SizedStatement) (rest : List SizedStatement) → new.statements.items ≡ sized ∷ rest → (kind : DeckKind) (old : List Card) (earlier : List Statement) → IsOnSpan kind old cards earlier span sizer deck →
      IsSizedStatement kind earlier (stood earlier) (ahead cards earlier) sized (statement_at cards span) × ((sized.cards ≡ span.count) × IsAsBefore kind (known_in old) earlier (statement_at cards span))
  pub behind : (sized : SizedStatement) (next : OldDeck) → new.statements.items ≡ sized ∷ next.statements.items → new.pieces.items ≡ next.pieces.items → IsSameFront new next →
      GoesBehind cards span sizer deck next (Some sized)

-- it stays, or none does
abbrev pub KeepsIf : List Card → Span → Sizer → OldDeck → OldDeck → Bool → Type 0
KeepsIf cards span sizer deck new true = StaysFirst cards span sizer deck new
KeepsIf cards span sizer deck new false = GoesBehind cards span sizer deck new None

-- the statements of these spans are those of the deck, which are more than a limit, and of which no more than that stand in front
pub record IsBounded (cards : List Card) (spans : List Span) (front : List Statement) (limit : ℕ) : Type 0 where
  pub all : all_statements cards spans ≡ statements_of (reverse cards)
  pub few : length front ≤ limit
  pub more : limit < length (known_in cards)
