-- What contracts see of the record of a deck (ours).
use Rattle.std.specs.Prelude.{ℕ, ◌≡◌, ◌≤◌, ◌<◌, ◌-◌, Bool, List, [], ◌∷◌, length, map}
use Rattle.deck_assembler.specs.Joins.DeckParts.{DeckPiece}
use Rattle.definitions.specs.Cards.{Card}

-- a record: name and cards, whether it is spent, and how many statements each piece has
pub record Record : Type 0 where
  pub name : List ℕ
  pub cards : List Card
  pub is_spent : Bool
  pub pieces : List ℕ

-- how many statements each piece has
abbrev pub piece_counts : List DeckPiece → List ℕ
piece_counts pieces = map (λ (piece : DeckPiece). length piece.statements) pieces

-- so many statements in pieces: each but the last has 128, the last 1 to 128
abbrev pub ArePieces : ℕ → List ℕ → Type 0
ArePieces count [] = count ≡ 0
ArePieces count (piece ∷ []) = (count ≡ piece) × ((0 < piece) × (piece ≤ 128))
ArePieces count (piece ∷ next ∷ pieces) = (piece ≡ 128) × ((128 ≤ count) × ArePieces (count - 128) (next ∷ pieces))
