-- When what is kept of a deck is what its cards make.
use Rattle.std.specs.Prelude.{ℕ, ◌≡◌, ⊤, ◌+◌, ◌<◌, ◌≤◌, List, [], ◌∷◌, ◌++◌, true, take, drop, length, reverse}
use Rattle.definitions.specs.{Cards.Card, DeckKinds.{up_to_end, behind_end, kind_of_statements}, Entries.externals_of, Lengths.lengths_of, Literals.literal_words, Settled.{ReadStatement, defined}, Settling.{settle, settled_all, number_base_of}, Statements.{Statement, statements_of}, Laws.{Agreement.own_symbols, States.state_after}, declared.deck_kind.DeckKind.DeckKind}
use Rattle.operations.specs.Joins.OperationsAs.{operation_as}
use Rattle.statement_coder.specs.Joins.{KeptReadings.IsKeptReading, Sizings.IsSizing}
use Rattle.deck_assembler.specs.{Joins.DeckParts.{DeckPiece, DeckParts, sized_in}, Joins.FirstSymbols.symbol_in, Joins.LiteralsRead.IsBareOperand, declared.sized_statement.SizedStatement.SizedStatement}

-- the symbol of its location field that a statement defines
abbrev pub own_of : ReadStatement → List (List ℕ)
own_of read = own_symbols read.operation read.fields.location

-- a statement behind these, newest first, was sized; its cards are the next of those ahead, and so many stood before them
pub record IsSizedStatement (deck_kind : DeckKind) (earlier : List Statement) (stood : ℕ) (ahead : List Card) (sized : SizedStatement) (statement : Statement) : Type 0 where
  pub before : statement.before ≡ stood
  pub cards : take sized.cards ahead ≡ statement.cards
  pub some : 0 < sized.cards
  pub few : sized.cards ≤ 10
  pub within : sized.cards ≤ length ahead
  pub sizing : IsSizing deck_kind (λ name. defined name (settled_all deck_kind earlier)) (settle deck_kind (settled_all deck_kind earlier) statement) sized.sizing
  pub number_base : sized.sizing.usual.number_base ≡ number_base_of (settled_all deck_kind earlier)
  pub operation : (settle deck_kind (settled_all deck_kind earlier) statement).read.operation ≡ operation_as sized.operation
  pub label : own_symbols (operation_as sized.operation) sized.label ≡ own_of (settle deck_kind (settled_all deck_kind earlier) statement).read
  pub kept : IsKeptReading deck_kind (operation_as sized.operation) sized.kept (settle deck_kind (settled_all deck_kind earlier) statement).read.operand
  pub bare : sized.is_bare ≡ true → IsBareOperand (settle deck_kind (settled_all deck_kind earlier) statement).read.operand

-- a statement is the next so many cards of those ahead, and so many stood before them
pub record IsListedStatement (stood : ℕ) (ahead : List Card) (count : ℕ) (statement : Statement) : Type 0 where
  pub before : statement.before ≡ stood
  pub cards : take count ahead ≡ statement.cards
  pub some : 0 < count
  pub few : count ≤ 10
  pub within : count ≤ length ahead

-- the statements behind END in order, by the number of their cards: they are all that is ahead
abbrev pub AreListedFrom : ℕ → List Card → List ℕ → List Statement → Type 0
AreListedFrom stood ahead [] [] = ahead ≡ []
AreListedFrom stood ahead (count ∷ counts) (statement ∷ others) =
    IsListedStatement stood ahead count statement × AreListedFrom (stood + count) (drop count ahead) counts others
AreListedFrom stood ahead _ _ = ⊥

-- statements in order were sized one behind the other, and then those behind END are listed
abbrev pub AreSizedFrom : DeckKind → List Statement → ℕ → List Card → List SizedStatement → List Statement → List ℕ → List Statement → Type 0
AreSizedFrom kind earlier stood ahead [] [] behind others = AreListedFrom stood ahead behind others
AreSizedFrom kind earlier stood ahead (sized ∷ later) (statement ∷ statements) behind others =
    IsSizedStatement kind earlier stood ahead sized statement
    × AreSizedFrom kind (statement ∷ earlier) (stood + sized.cards) (drop sized.cards ahead) later statements behind others
AreSizedFrom kind earlier stood ahead _ _ behind others = ⊥

-- the first so many statements, read newest first, in front of those before them
abbrev pub passed : ℕ → List Statement → List Statement → List Statement
passed count statements earlier = reverse (take count statements) ++ earlier

-- each piece has the state behind the statements before it; those ahead stand in order
abbrev pub HaveStatesFrom : DeckKind → List Statement → List DeckPiece → List Statement → Type 0
HaveStatesFrom kind earlier [] statements = ⊤
HaveStatesFrom kind earlier (piece ∷ pieces) statements =
    let count = length piece.statements in
    (piece.state ≡ state_after (settled_all kind earlier)) × HaveStatesFrom kind (passed count statements earlier) pieces (drop count statements)

-- each piece has 1 to 128 statements, and each but the last has 128
abbrev pub AreFilled : List DeckPiece → Type 0
AreFilled [] = ⊤
AreFilled (piece ∷ []) = (0 < length piece.statements) × (length piece.statements ≤ 128)
AreFilled (piece ∷ next ∷ pieces) = (length piece.statements ≡ 128) × AreFilled (next ∷ pieces)

-- what is kept is made of these statements up to END, newest first, and of these behind it
pub record IsSizedUp (cards : List Card) (statements others : List Statement) (deck : DeckParts) : Type 0 where
  pub kind : deck.kind ≡ kind_of_statements statements
  pub symbols : symbol_in deck.symbols ≡ (λ name. defined name (settled_all deck.kind statements))
  pub externals : deck.externals ≡ externals_of (settled_all deck.kind statements)
  pub literals : deck.literals ≡ literal_words (settled_all deck.kind statements)
  pub lengths : deck.lengths ≡ lengths_of deck.kind (settled_all deck.kind statements)
  pub sized : AreSizedFrom deck.kind [] 0 cards (sized_in deck.pieces) (reverse statements) deck.behind (reverse others)
  pub states : HaveStatesFrom deck.kind [] deck.pieces (reverse statements)
  pub filled : AreFilled deck.pieces

-- what is kept of a deck is what its cards make
abbrev pub IsSizedDeck : List Card → DeckParts → Type 0
IsSizedDeck cards deck = let all = statements_of (reverse cards) in IsSizedUp cards (up_to_end all) (behind_end all) deck
