-- How the code keeps the cards of a deck in pieces, and edits them there (ours).
use Rattle.std.specs.{Prelude.{◌≡◌, ◌≤◌, ◌<◌, ◌+◌, ℕ, List, [], length, take, drop, get_or}, List.flat_map}
use Rattle.desk_core.specs.{Joins.Language.Card, declared.piece.Source.Source, declared.piece.Source.TheVariants.{Object, Cards}}

-- the cards of what pieces are parts of
abbrev pub source_cards : Source → List Card
source_cards (Object deck) = deck.cards
source_cards (Cards cards) = cards.value.items

-- the cards from one place on, up to another
abbrev pub part : ℕ → ℕ → List Card → List Card
part from until cards = drop from (take until cards)

-- the cards of pieces, one piece behind the other
abbrev pub joined : List (List Card) → List Card
joined pieces = flat_map (λ (piece : List Card). piece) pieces

-- in front of a place stand so many pieces, and so many cards of the next; it is behind all pieces only where all cards stand in front of it
pub record IsSpot (pieces : List (List Card)) (place piece card : ℕ) : Type 0 where
  pub within : piece ≤ length pieces
  pub placed : length (joined (take piece pieces)) + card ≡ place
  pub inside : card ≤ length (get_or pieces piece [])
  pub begun : place < length (joined pieces) → card < length (get_or pieces piece [])

-- in front of a place stand so many pieces, and so many cards of one more
pub record IsGap (pieces : List (List Card)) (place piece card : ℕ) : Type 0 where
  pub within : piece < length pieces
  pub placed : length (joined (take piece pieces)) + card ≡ place
  pub inside : card ≤ length (get_or pieces piece [])
