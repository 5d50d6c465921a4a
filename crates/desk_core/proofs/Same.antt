-- Texts, cards and decks that are shown to be the same are equal.
use Rattle.std.proofs.{Common.{◌≡◌, ℕ, ◌==◌, true, List, [], ◌∷◌, refl, ap₂, eq-eqb}, lemmas.Bool.{and_parts, and_from}}
use Rattle.definitions.proofs.TextLaws.{same_text-true}
use Rattle.desk_core.specs.{Joins.Language.{Card, Deck, same_text}, Delivering.{same_cards, same_deck, same_decks}}

-- texts that are shown to be the same
pub equal_texts : (a b : List ℕ) → same_text a b ≡ true → a ≡ b
equal_texts = same_text-true

-- a text is the same as itself
pub same_text-itself : (a : List ℕ) → same_text a a ≡ true
same_text-itself [] = refl
same_text-itself (x ∷ xs) = and_from (x == x) (same_text xs xs) (eq-eqb x x refl) (same_text-itself xs)

pub equal_cards : (a b : List Card) → same_cards a b ≡ true → a ≡ b
equal_cards [] [] h = refl
equal_cards [] (y ∷ ys) h = cc
equal_cards (x ∷ xs) [] h = cc
equal_cards (x ∷ xs) (y ∷ ys) h =
    let parts = and_parts (same_text x y) (same_cards xs ys) h in
    let heads : x ≡ y = equal_texts x y parts.0 in
    let tails : xs ≡ ys = equal_cards xs ys parts.1 in
    cc

abbrev deck : List ℕ → List Card → Deck
deck name cards = record { name = name; cards = cards }

pub equal_decks : (a b : Deck) → same_deck a b ≡ true → a ≡ b
equal_decks a b h =
    let parts = and_parts (same_text a.name b.name) (same_cards a.cards b.cards) h in
    let names : a.name ≡ b.name = equal_texts a.name b.name parts.0 in
    let cards : a.cards ≡ b.cards = equal_cards a.cards b.cards parts.1 in
    ap₂ (λ (name : List ℕ) (of_name : List Card). deck name of_name) names cards

pub equal_lists : (a b : List Deck) → same_decks a b ≡ true → a ≡ b
equal_lists [] [] h = refl
equal_lists [] (y ∷ ys) h = cc
equal_lists (x ∷ xs) [] h = cc
equal_lists (x ∷ xs) (y ∷ ys) h =
    let parts = and_parts (same_deck x y) (same_decks xs ys) h in
    let heads : x ≡ y = equal_decks x y parts.0 in
    let tails : xs ≡ ys = equal_lists xs ys parts.1 in
    cc

-- cards, decks and lists of decks are the same as themselves
same_cards-itself : (cards : List Card) → same_cards cards cards ≡ true
same_cards-itself [] = refl
same_cards-itself (card ∷ cards) = and_from (same_text card card) (same_cards cards cards) (same_text-itself card) (same_cards-itself cards)

pub same_deck-itself : (deck : Deck) → same_deck deck deck ≡ true
same_deck-itself deck = and_from (same_text deck.name deck.name) (same_cards deck.cards deck.cards) (same_text-itself deck.name) (same_cards-itself deck.cards)

pub same_decks-itself : (decks : List Deck) → same_decks decks decks ≡ true
same_decks-itself [] = refl
same_decks-itself (deck ∷ decks) = and_from (same_deck deck deck) (same_decks decks decks) (same_deck-itself deck) (same_decks-itself decks)
