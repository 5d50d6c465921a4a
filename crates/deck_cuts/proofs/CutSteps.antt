-- The steps of the cut into decks, which the code does in order and the definitions newest first.
use Rattle.std.proofs.{Common.{ℕ, suc, ◌≡◌, ◌-◌, ◌<◌, ◌≤◌, List, [], ◌∷◌, ◌++◌, Bool, true, false, if◌then◌else◌, nat_le, length, take, get_or, set, codes, not, refl, sym, ap, ◌∙◌, arith}, lemmas.Bool.{cond-true, cond-false, le-leb, lt-leb}, lemmas.List.{set_split, set-get_or, drop_all, length-reverse}}
use Rattle.definitions.specs.{Characters.same_text, Cards.Card, Fields.fields_of, DeckInput.{Deck, Input, Decks, Faulty, BadName, NameTaken, TooManyDecks, DeckFull, most_decks, most_cards, is_deck_name, name_on, is_taken, in_card_order, continued, with_card}}
use Rattle.deck_cuts.{specs.Cuts.newest_first, specs.declared.cutting.CardRole.CardRole, specs.declared.cutting.CardRole.TheVariants.{Begins, Misnamed, Continues}, specs.Joins.CardRoles.{role_of, begun_named}, proofs.DeckLaws.{newest_first-push, in_card_order-push, length-newest_first, is_taken-newest_first}}

-- a deck that is begun with its card
abbrev pub begun_deck : List ℕ → Card → Deck
begun_deck name card = record { name = name; cards = card ∷ [] }

abbrev begun_if_room : List ℕ → Card → List Deck → Bool → Input
begun_if_room name card decks full = if full then Faulty TooManyDecks else Decks (begun_deck name card ∷ decks)

-- a name that is taken
pub begun_named-taken : (name : List ℕ) (card : Card) (decks : List Deck) → is_taken name decks ≡ true → begun_named name card (newest_first decks) ≡ Faulty NameTaken
begun_named-taken name card decks taken =
    cond-true (is_taken name (newest_first decks)) (Faulty NameTaken) (begun_if_room name card (newest_first decks) (nat_le most_decks (length (newest_first decks))))
    (is_taken-newest_first name decks ∙ taken)

begun_named-new : (name : List ℕ) (card : Card) (decks : List Deck) (full : Bool) → is_taken name decks ≡ false → nat_le most_decks (length decks) ≡ full →
    begun_named name card (newest_first decks) ≡ begun_if_room name card (newest_first decks) full
begun_named-new name card decks full new room =
    cond-false (is_taken name (newest_first decks)) (Faulty NameTaken) (begun_if_room name card (newest_first decks) (nat_le most_decks (length (newest_first decks))))
    (is_taken-newest_first name decks ∙ new)
    ∙ ap (begun_if_room name card (newest_first decks)) (ap (nat_le most_decks) (length-newest_first decks) ∙ room)

-- a name that is new, and no room for a deck more
pub begun_named-many : (name : List ℕ) (card : Card) (decks : List Deck) → is_taken name decks ≡ false → most_decks ≤ length decks → begun_named name card (newest_first decks) ≡ Faulty TooManyDecks
begun_named-many name card decks new many = begun_named-new name card decks true new (le-leb most_decks (length decks) many)

-- a name that is new, and room for a deck more
pub begun_named-more : (name : List ℕ) (card : Card) (decks : List Deck) → is_taken name decks ≡ false → length decks < most_decks → begun_named name card (newest_first decks) ≡ Decks (newest_first (decks ++ begun_deck name card ∷ []))
begun_named-more name card decks new few =
    begun_named-new name card decks false new (lt-leb most_decks (length decks) few) ∙ ap Decks (sym (newest_first-push decks (begun_deck name card)))

-- the deck that is made so
pub begun_deck-made : (name : List ℕ) (card : Card) (empty made : Deck) → empty ≡ record { name = name; cards = [] } → made ≡ record { name = empty.name; cards = empty.cards ++ card ∷ [] } → made ≡ begun_deck name card
begun_deck-made name card empty made e m = let pushed : Deck → Deck = λ d. record { name = d.name; cards = d.cards ++ card ∷ [] } in m ∙ ap pushed e

set-last : (decks : List Deck) (count : ℕ) (deck : Deck) → count ≡ length decks → 0 < count → set decks (count - 1) deck ≡ take (count - 1) decks ++ deck ∷ []
set-last decks count deck all some =
    set_split decks (count - 1) deck (omega arith)
    ∙ ap (λ (rest : List Deck). take (count - 1) decks ++ deck ∷ rest) (drop_all (suc (count - 1)) decks (omega arith))

last-split : (decks : List Deck) (count : ℕ) (deck : Deck) → count ≡ length decks → 0 < count → deck ≡ get_or decks (count - 1) deck → decks ≡ take (count - 1) decks ++ deck ∷ []
last-split decks count deck all some e =
    sym (set-get_or decks (count - 1) deck)
    ∙ set-last decks count (get_or decks (count - 1) deck) all some
    ∙ ap (λ (last : Deck). take (count - 1) decks ++ last ∷ []) (sym e)

abbrev continued_if_room : Card → Deck → List Deck → Bool → Input
continued_if_room card deck decks full = if full then Faulty DeckFull else Decks (record { name = deck.name; cards = card ∷ deck.cards } ∷ decks)

continued-last : (number : ℕ) (card : Card) (decks : List Deck) (count : ℕ) (deck : Deck) (full : Bool) → count ≡ length decks → 0 < count → deck ≡ get_or decks (count - 1) deck → nat_le most_cards (length deck.cards) ≡ full →
    continued number card (newest_first decks) ≡ continued_if_room card (in_card_order deck) (newest_first (take (count - 1) decks)) full
continued-last number card decks count deck full all some e room =
    ap (continued number card) (ap newest_first (last-split decks count deck all some e) ∙ newest_first-push (take (count - 1) decks) deck)
    ∙ ap (continued_if_room card (in_card_order deck) (newest_first (take (count - 1) decks))) (ap (nat_le most_cards) (length-reverse deck.cards) ∙ room)

-- a card more on the latest deck, which has room for it
pub continued-more : (number : ℕ) (card : Card) (decks : List Deck) (count : ℕ) (deck next : Deck) → count ≡ length decks → 0 < count → deck ≡ get_or decks (count - 1) deck → length deck.cards < most_cards →
    next ≡ record { name = deck.name; cards = deck.cards ++ card ∷ [] } → continued number card (newest_first decks) ≡ Decks (newest_first (set decks (count - 1) next))
continued-more number card decks count deck next all some e room n =
    let front = take (count - 1) decks in
    continued-last number card decks count deck false all some e (lt-leb most_cards (length deck.cards) room)
    ∙ ap (λ (last : Deck). Decks (last ∷ newest_first front)) (sym (ap in_card_order n ∙ in_card_order-push deck.name deck.cards card))
    ∙ ap Decks (sym (ap newest_first (set-last decks count next all some) ∙ newest_first-push front next))

-- what a card in a role does to the decks
abbrev pub with_role : ℕ → Card → List Deck → CardRole → Input
with_role number card decks (Begins name) = begun_named name card decks
with_role number card decks Misnamed = Faulty (BadName number)
with_role number card decks Continues = continued number card decks

with_role-tests : (number : ℕ) (card : Card) (decks : List Deck) (name : List ℕ) (ident named : Bool) →
    (if ident then (if not named then Faulty (BadName number) else begun_named name card decks) else continued number card decks)
    ≡ with_role number card decks (if ident then (if named then Begins name else Misnamed) else Continues)
with_role-tests number card decks name true true = refl
with_role-tests number card decks name true false = refl
with_role-tests number card decks name false named = refl

-- a card does to the decks what its role says
pub with_card-role : (number : ℕ) (card : Card) (decks : List Deck) (role : CardRole) → role ≡ role_of card → with_card number card decks ≡ with_role number card decks role
with_card-role number card decks role e =
    let fields = fields_of (card ∷ []) in
    with_role-tests number card decks (name_on fields) (same_text fields.operation (codes "IDENT")) (is_deck_name (name_on fields)) ∙ ap (with_role number card decks) (sym e)
