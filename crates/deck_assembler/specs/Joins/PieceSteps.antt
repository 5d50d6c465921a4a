-- One statement more in the pieces of a deck, which are read newest first.
use Rattle.std.specs.Prelude.{ℕ, ◌++◌, List, [], ◌∷◌, Bool, true, not, nat_lt, length, reverse, if◌then◌else◌}
use Rattle.definitions.specs.Laws.States.{BlockState}
use Rattle.deck_assembler.specs.{Joins.DeckParts.DeckPiece, declared.sized_statement.SizedStatement.SizedStatement}

-- how many statements a piece has at most
abbrev pub most_statements : ℕ
most_statements = 128

-- whether the next statement begins a piece
abbrev pub is_full : List DeckPiece → Bool
is_full [] = true
is_full (latest ∷ earlier) = not (nat_lt (length latest.statements) most_statements)

-- a piece with one statement more
abbrev pub with_pushed : SizedStatement → DeckPiece → DeckPiece
with_pushed sized piece = record piece { statements = piece.statements ++ sized ∷ [] }

-- one statement more in the latest piece
abbrev pub onto_latest : SizedStatement → List DeckPiece → List DeckPiece
onto_latest sized [] = []
onto_latest sized (latest ∷ earlier) = with_pushed sized latest ∷ earlier

-- one statement more, behind this state: it begins a piece where the latest one is full
abbrev pub with_statement : BlockState → SizedStatement → List DeckPiece → List DeckPiece
with_statement state sized pieces = if is_full pieces then record { state = state; statements = sized ∷ [] } ∷ pieces else onto_latest sized pieces

-- the statements of pieces, newest first
abbrev pub sized_newest : List DeckPiece → List SizedStatement
sized_newest [] = []
sized_newest (latest ∷ earlier) = reverse latest.statements ++ sized_newest earlier
