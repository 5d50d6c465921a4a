-- What a card is to the decks, in the words of the definitions.
use Rattle.std.specs.Prelude.{ℕ, List, [], ◌∷◌, if◌then◌else◌, length, nat_le}
use Rattle.definitions.specs.{Cards.Card, Fields.fields_of, DeckInput.{Deck, Input, Decks, Faulty, NameTaken, TooManyDecks, is_deck_name, name_on, is_taken, most_decks}}
use Rattle.deck_cuts.specs.{Cuts.begins_deck, declared.cutting.CardRole.CardRole, declared.cutting.CardRole.TheVariants.{Begins, Misnamed, Continues}}

-- the role of an IDENT card, by the name on it
abbrev pub role_by_name : List ℕ → CardRole
role_by_name name = if is_deck_name name then Begins name else Misnamed

-- the role of a card that is looked at alone
abbrev pub role_of : Card → CardRole
role_of card =
    if begins_deck card then role_by_name (name_on (fields_of (card ∷ []))) else Continues

-- a deck is begun under a lawful name
abbrev pub begun_named : List ℕ → Card → List Deck → Input
begun_named name card decks =
    if is_taken name decks then Faulty NameTaken
    else if nat_le most_decks (length decks) then Faulty TooManyDecks
    else Decks (record { name = name; cards = card ∷ [] } ∷ decks)
