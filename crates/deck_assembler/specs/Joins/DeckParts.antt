-- What a record keeps of a deck's statements, as contracts see it.
use Rattle.std.specs.Prelude.{ℕ, List, flat_map}
use Rattle.definitions.specs.{Forms.Form, Lengths.BlockLength, Laws.States.BlockState, declared.deck_kind.DeckKind.DeckKind}
use Rattle.deck_assembler.specs.declared.sized_statement.SizedStatement.{SizedStatement}

-- some statements in order, and the state before the first of them
pub record DeckPiece : Type 0 where
  pub state : BlockState
  pub statements : List SizedStatement

-- all of a deck but its cards: its statements up to END in pieces, how many cards each statement behind END has, and what the names and blocks are
pub record DeckParts : Type 0 where
  pub kind : DeckKind
  pub pieces : List DeckPiece
  pub behind : List ℕ
  -- each symbol with its value, the name as a number
  pub symbols : List (ℕ × Form)
  -- the names that it takes from others
  pub externals : List (List ℕ)
  pub literals : List ℕ
  pub lengths : List BlockLength

-- the statements of all pieces in order
abbrev pub sized_in : List DeckPiece → List SizedStatement
sized_in pieces = flat_map (λ (piece : DeckPiece). piece.statements) pieces
