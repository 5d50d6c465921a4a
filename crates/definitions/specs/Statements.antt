-- Statements: which cards belong together, and their text (COMPASS 60492600, statement format).
-- Lists of cards and of statements are read newest first.
use Rattle.std.specs.Prelude.{ℕ, ◌≡◌, ⊤, suc, List, [], ◌∷◌, ◌++◌, Bool, true, false, not, ◌&&◌, ◌||◌, nat_le, length, drop, flat_map, if◌then◌else◌}
use Rattle.definitions.specs.Cards.{Card, is_comma_card, is_comment, padded}

-- the cards of a statement, and how many cards of the deck stand before them
pub record Statement : Type 0 where
  pub before : ℕ
  pub cards : List Card

-- how many comma cards stand last
abbrev pub comma_cards : List Card → ℕ
comma_cards [] = 0
comma_cards (card ∷ earlier) = if is_comma_card card then suc (comma_cards earlier) else 0

-- whether the nearest card that is no comma card is there, and is no comment
abbrev pub has_owner : List Card → Bool
has_owner [] = false
has_owner (card ∷ earlier) = if is_comma_card card then has_owner earlier else not (is_comment card)

-- whether a card belongs to the statement of the cards before it; at most eight comma cards stand between
abbrev pub continues : List Card → Card → Bool
continues earlier card = is_comma_card card && has_owner earlier && nat_le (comma_cards earlier) 8

-- the latest statement with a card more
abbrev pub onto_latest : Card → List Statement → List Statement
onto_latest card [] = []
onto_latest card (latest ∷ earlier) = record latest { cards = latest.cards ++ card ∷ [] } ∷ earlier

-- the statements of a deck's cards
abbrev pub statements_of : List Card → List Statement
statements_of [] = []
statements_of (card ∷ earlier) =
    if continues earlier card then onto_latest card (statements_of earlier)
    else (record { before = length earlier; cards = card ∷ [] } ∷ statements_of earlier)

-- columns 1 to 72 of the first card, and 2 to 72 of each comma card
abbrev pub text_of : List Card → List ℕ
text_of [] = []
text_of (first ∷ others) = padded 72 first ++ flat_map (λ card. drop 1 (padded 72 card)) others

-- a comma card that belongs to no other
abbrev pub is_stray : List Card → Bool
is_stray [] = false
is_stray (first ∷ others) = is_comma_card first

-- a comment, or a stray comma card: no field of it is read
abbrev pub is_unread : List Card → Bool
is_unread [] = true
is_unread (first ∷ others) = is_comma_card first || is_comment first

-- the cards of statements that are read newest first, in the order of the deck
abbrev pub cards_in : List Statement → List Card
cards_in [] = []
cards_in (statement ∷ earlier) = cards_in earlier ++ statement.cards

-- each statement shows how many cards stand before it
abbrev pub AreNumbered : List Statement → Type 0
AreNumbered [] = ⊤
AreNumbered (statement ∷ earlier) = (statement.before ≡ length (cards_in earlier)) × AreNumbered earlier
