-- Changes of decks, and the decks that a list of changes leaves (ours).
use Rattle.std.specs.{Prelude.{ℕ, not, List, [], ◌∷◌, ◌++◌, map, filter, fold, if◌then◌else◌}, List.list_any}
use Rattle.desk_core.specs.Joins.{Language.{Deck, same_text}, Edits.{Edit, edited_by}}

-- a deck is added at the end, the deck of a name is dropped, or it is edited: one edit, or several in order; or a deck is put in the place of the one of its name, at the end where there is none
pub data Change : Type 0 where
  Added : Deck → Change
  Dropped : List ℕ → Change
  Edited : List ℕ → List Edit → Change
  Put : Deck → Change

-- a deck, with these edits where it has this name
abbrev pub edited_if_named : List ℕ → List Edit → Deck → Deck
edited_if_named name edits deck = if same_text name deck.name then record deck { cards = edited_by edits deck.cards } else deck

-- a deck, with the cards of the one that is put where it has the name of that
abbrev pub put_over : Deck → Deck → Deck
put_over new deck = if same_text new.name deck.name then record deck { cards = new.cards } else deck

-- the decks after a change
abbrev pub changed : List Deck → Change → List Deck
changed decks (Added deck) = decks ++ deck ∷ []
changed decks (Dropped name) = filter (λ (deck : Deck). not (same_text name deck.name)) decks
changed decks (Edited name edits) = map (edited_if_named name edits) decks
changed decks (Put new) = if list_any (λ (deck : Deck). same_text new.name deck.name) decks then map (put_over new) decks else decks ++ new ∷ []

-- the decks after changes in order, from no decks
abbrev pub decks_after : List Change → List Deck
decks_after changes = fold changed [] changes
