-- Decks in order, and as the definitions collect them: newest first.
use Rattle.std.proofs.{Common.{ℕ, ◌≡◌, ◌||◌, List, [], ◌∷◌, ◌++◌, Bool, length, map, reverse, refl, sym, ap, ap₂, ◌∙◌}, lemmas.List.{reverse-append, reverse-reverse, length-reverse, length-map, map_push}, lemmas.List.Sorted.{IsPermutation-reverse, list_any-IsPermutation}}
use Rattle.definitions.specs.{Characters.same_text, Cards.Card, DeckInput.{Deck, is_taken, in_card_order, in_input_order}}
use Rattle.deck_cuts.specs.Cuts.{newest_first}

-- one deck more
pub newest_first-push : (decks : List Deck) (deck : Deck) → newest_first (decks ++ deck ∷ []) ≡ in_card_order deck ∷ newest_first decks
newest_first-push decks deck = ap reverse (map_push in_card_order decks deck) ∙ reverse-append (map in_card_order decks) (in_card_order deck ∷ [])

-- one card more
pub in_card_order-push : (name : List ℕ) (cards : List Card) (card : Card) →
    in_card_order (record { name = name; cards = cards ++ card ∷ [] }) ≡ record { name = name; cards = card ∷ reverse cards }
in_card_order-push name cards card = let made : List Card → Deck = λ c. record { name = name; cards = c } in ap made (reverse-append cards (card ∷ []))

pub length-newest_first : (decks : List Deck) → length (newest_first decks) ≡ length decks
length-newest_first decks = length-reverse (map in_card_order decks) ∙ length-map decks in_card_order

is_taken-map : (name : List ℕ) (decks : List Deck) → is_taken name (map in_card_order decks) ≡ is_taken name decks
is_taken-map name [] = refl
is_taken-map name (deck ∷ decks) = ap (λ (t : Bool). same_text deck.name name || t) (is_taken-map name decks)

-- a name is taken in either order
pub is_taken-newest_first : (name : List ℕ) (decks : List Deck) → is_taken name (newest_first decks) ≡ is_taken name decks
is_taken-newest_first name decks =
    sym (list_any-IsPermutation (λ (deck : Deck). same_text deck.name name) (map in_card_order decks) (reverse (map in_card_order decks)) (IsPermutation-reverse (map in_card_order decks)))
    ∙ is_taken-map name decks

in_card_order-twice : (deck : Deck) → in_card_order (in_card_order deck) ≡ deck
in_card_order-twice deck = let made : List Card → Deck = λ c. record { name = deck.name; cards = c } in ap made (reverse-reverse deck.cards)

all_twice : (decks : List Deck) → map in_card_order (map in_card_order decks) ≡ decks
all_twice [] = refl
all_twice (deck ∷ decks) = ap₂ (λ (d : Deck) (ds : List Deck). d ∷ ds) (in_card_order-twice deck) (all_twice decks)

-- back in the order of the input
pub in_input_order-newest_first : (decks : List Deck) → in_input_order (newest_first decks) ≡ decks
in_input_order-newest_first decks = ap (map in_card_order) (reverse-reverse (map in_card_order decks)) ∙ all_twice decks
