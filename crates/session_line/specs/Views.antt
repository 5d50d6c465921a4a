-- What is shown of the cards of a deck: all, some, or the numbers of those that have a text (ours).
use Rattle.std.specs.Prelude.{ℕ, ◌+◌, ◌-◌, Bool, List, [], ◌∷◌, ◌++◌, take, drop, if◌then◌else◌}
use Rattle.definitions.specs.Cards.{Card}
use Rattle.session_commands.specs.Sought.{has_text}

-- the cards from a place on, counted from 1, at most so many
abbrev pub cards_from : ℕ → ℕ → List Card → List Card
cards_from place count cards = take count (drop (place - 1) cards)

-- a number alone, where something holds of it
abbrev pub number_where : Bool → ℕ → List ℕ
number_where holds number = if holds then number ∷ [] else []

-- the numbers of the cards that have a text, where the first card has this number
abbrev pub numbers_from : ℕ → List ℕ → List Card → List ℕ
numbers_from number text [] = []
numbers_from number text (card ∷ cards) = number_where (has_text text card) number ++ numbers_from (number + 1) text cards

-- the numbers of the cards that have a text, counted from 1
abbrev pub numbers_of : List ℕ → List Card → List ℕ
numbers_of text cards = numbers_from 1 text cards
