-- Decks that begin behind the END of another: they are listed there and not assembled (ours).
use Rattle.std.specs.Prelude.{ℕ, Bool, false, List, [], ◌∷◌, filter, length, reverse}
use Rattle.definitions.specs.{Cards.Card, DeckInput.Deck, DeckKinds.behind_end, Statements.{Statement, statements_of}}
use Rattle.deck_cuts.specs.Cuts.{begins_deck}

-- whether the first of a statement's cards begins a deck of a file
abbrev pub do_begin : List Card → Bool
do_begin [] = false
do_begin (card ∷ cards) = begins_deck card

-- the same of a statement
abbrev pub begins_with_deck : Statement → Bool
begins_with_deck statement = do_begin statement.cards

-- how many decks begin behind the END of a deck
abbrev pub decks_behind : Deck → ℕ
decks_behind deck = length (filter begins_with_deck (behind_end (statements_of (reverse deck.cards))))
