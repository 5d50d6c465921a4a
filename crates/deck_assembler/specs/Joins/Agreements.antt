-- Where an edited deck agrees again with the one before it, so that all that is left stays as it was sized.
use Rattle.std.specs.Prelude.{ℕ, ◌≡◌, ◌≤◌, ◌-◌, ⊤, ◌++◌, Bool, true, false, List, [], ◌∷◌, Option, drop, length, reverse}
use Rattle.definitions.specs.{Cards.Card, Forms.Form, Operands.{Operand, NamesOperand}, Settled.{ReadStatement, defined}, Settling.{View, settle, settled_all}, Statements.{Statement, cards_in}, Laws.States.state_after, Laws.Agreement.{Agree, early_symbols, lawful_names}, declared.deck_kind.DeckKind.DeckKind}
use Rattle.statement_coder.specs.Joins.Sizings.{defines_in}
use Rattle.statement_coder.specs.declared.definitions_made.Defines as code
use Rattle.statement_coder.specs.declared.definitions_made.Defines.TheVariants as defines
use Rattle.deck_assembler.specs.{Joins.DeckParts.sized_in, Joins.FirstSymbols.symbol_in, Joins.Formers.known_in, Joins.SizedDecks.{IsSizedStatement, AreSizedFrom}, declared.early_trial.Trial.Trial, declared.old_deck.OldDeck.OldDeck, declared.sized_statement.SizedStatement.SizedStatement}

-- whether names are defined as externals
abbrev pub is_externals : code.Defines → Bool
is_externals defines.Externals = true
is_externals what = false

-- two views agree on names that are defined as externals
abbrev pub AreNamesAlike : View → View → List (Option (List ℕ)) → code.Defines → Type 0
AreNamesAlike v w names defines.Externals = Agree v w (lawful_names names)
AreNamesAlike v w names what = ⊤

-- two views agree on the names that an EXT defines
abbrev pub AreExternalsAlike : View → View → Operand → code.Defines → Type 0
AreExternalsAlike v w (NamesOperand names) what = AreNamesAlike v w names what
AreExternalsAlike v w operand what = ⊤

-- two views agree on all that a statement that was sized defines or reads early
pub record IsAlike (v w : View) (read : ReadStatement) (what : code.Defines) : Type 0 where
  pub early : Agree v w (early_symbols read)
  pub externals : AreExternalsAlike v w read.operand what

-- two views agree on all that statements in order define or read early, which are sized behind these
abbrev pub AreAlikeFrom : DeckKind → View → View → List Statement → List SizedStatement → List Statement → Type 0
AreAlikeFrom kind v w earlier [] statements = ⊤
AreAlikeFrom kind v w earlier (sized ∷ later) [] = ⊤
AreAlikeFrom kind v w earlier (sized ∷ later) (statement ∷ statements) =
    IsAlike v w (settle kind (settled_all kind earlier) statement).read (defines_in kind sized.sizing) × AreAlikeFrom kind v w (statement ∷ earlier) later statements

-- statements in order were sized behind some others, and two views agree on all of them
pub record StandAlike (kind : DeckKind) (ahead : List Card) (v w : View) (sized : List SizedStatement) : Type 0 where
  pub earlier : List Statement
  pub stood : ℕ
  pub statements : List Statement
  pub behind : List ℕ
  pub others : List Statement
  pub are : AreSizedFrom kind earlier stood ahead sized statements behind others
  pub alike : AreAlikeFrom kind v w earlier sized statements

-- the two tables of a trial agree on a statement, wherever it was sized
abbrev pub IsAlikeEver : Trial → SizedStatement → Type 0
IsAlikeEver trial sized =
    (earlier : List Statement) (stood : ℕ) (ahead : List Card) (given : Statement) → IsSizedStatement trial.kind earlier stood ahead sized given →
    IsAlike (symbol_in trial.first.now) (symbol_in trial.second.now) (settle trial.kind (settled_all trial.kind earlier) given).read (defines_in trial.kind sized.sizing)

-- a statement was sized behind some others, and the two tables of a trial agree on it
pub record IsAlikeOnce (trial : Trial) (sized : SizedStatement) : Type 0 where
  pub earlier : List Statement
  pub stood : ℕ
  pub ahead : List Card
  pub given : Statement
  pub is : IsSizedStatement trial.kind earlier stood ahead sized given
  pub alike : IsAlike (symbol_in trial.first.now) (symbol_in trial.second.now) (settle trial.kind (settled_all trial.kind earlier) given).read (defines_in trial.kind sized.sizing)

-- the statements of a deck that are left
abbrev pub left : OldDeck → List SizedStatement
left deck = deck.statements.items ++ sized_in deck.pieces.items

-- the statements in front of those that are left: they make the state and the symbols, and those left are sized behind them
pub record HasFront (cards : List Card) (sized : List SizedStatement) (deck : OldDeck) : Type 0 where
  pub front : List Statement
  pub later : List Statement
  pub behind : List ℕ
  pub others : List Statement
  pub stood : ℕ
  pub within : stood ≤ length cards
  pub place : stood ≡ length (cards_in front)
  pub all : reverse later ++ front ≡ known_in cards
  pub ahead : deck.ahead.now ≡ drop stood cards
  pub rest : AreSizedFrom deck.kind front stood (drop stood cards) sized later behind others
  pub state : deck.state ≡ state_after (settled_all deck.kind front)
  pub symbols : symbol_in deck.symbols ≡ (λ name. defined name (settled_all deck.kind front))

-- the last so many cards of two decks are the same
abbrev pub HaveSameEnd : ℕ → List Card → List Card → Type 0
HaveSameEnd count old cards = drop (length old - count) old ≡ drop (length cards - count) cards

-- the same deck
pub record IsOfSameDeck (old new : OldDeck) : Type 0 where
  pub kind : new.kind ≡ old.kind
  pub before : new.before ≡ old.before
  pub behind : new.behind ≡ old.behind

-- the same deck at the same place, and the same is in front
pub record IsSameFront (old new : OldDeck) : Type 0 where
  pub deck : IsOfSameDeck old new
  pub ahead : new.ahead.now ≡ old.ahead.now
  pub state : new.state ≡ old.state
  pub symbols : new.symbols ≡ old.symbols
  pub stage : new.stage ≡ old.stage

-- all that is left stands behind some statements, and agrees with these symbols
abbrev pub DoesAgree : OldDeck → List (ℕ × Form) → Type 0
DoesAgree deck symbols = StandAlike deck.kind deck.ahead.now (symbol_in deck.symbols) (symbol_in symbols) (left deck)

-- all that is left defines and reads early what it did, under these symbols
abbrev pub IsAgreeing : OldDeck → List (ℕ × Form) → Type 0
IsAgreeing deck symbols =
    (earlier : List Statement) (stood : ℕ) (statements : List Statement) (behind : List ℕ) (others : List Statement) →
    AreSizedFrom deck.kind earlier stood deck.ahead.now (left deck) statements behind others →
    AreAlikeFrom deck.kind (symbol_in deck.symbols) (symbol_in symbols) earlier (left deck) statements
