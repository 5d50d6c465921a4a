-- The statements of cards have all the cards.
use Rattle.std.{proofs.Common.{◌≡◌, List, [], ◌∷◌, ◌++◌, Bool, true, false, length, reverse, refl, sym, ap, ◌∙◌, append_assoc}, specs.Prelude.{◌&&◌, nat_le}, proofs.lemmas.List.length-reverse, proofs.lemmas.Grind.reverse_onto, proofs.lemmas.Bool.and_parts}
use Rattle.definitions.specs.{Cards.{Card, is_comma_card}, Statements.{Statement, statements_of, cards_in, AreNumbered, onto_latest, continues, has_owner, comma_cards}}

-- what continues has an owner in front of it
has_owner-continues : (earlier : List Card) (card : Card) → continues earlier card ≡ true → has_owner earlier ≡ true
has_owner-continues earlier card e = (and_parts (is_comma_card card) (has_owner earlier) (and_parts (is_comma_card card && has_owner earlier) (nat_le (comma_cards earlier) 8) e).0).1

-- there is a latest statement
abbrev HasLatest : List Statement → Type 0
HasLatest statements = (latest : Statement) × (others : List Statement) × (statements ≡ latest ∷ others)

has_latest-step : (earlier : List Card) (card : Card) → (has_owner earlier ≡ true → HasLatest (statements_of earlier)) → (b : Bool) → continues earlier card ≡ b → HasLatest (statements_of (card ∷ earlier))
has_latest-step earlier card before true is =
    let found = before (has_owner-continues earlier card is) in
    (record { before = found.0.before; cards = found.0.cards ++ card ∷ [] }, found.1, rw is (ap (onto_latest card) found.2))
has_latest-step earlier card before false is = (record { before = length earlier; cards = card ∷ [] }, statements_of earlier, rw is refl)

has_latest : (earlier : List Card) → has_owner earlier ≡ true → HasLatest (statements_of earlier)
has_latest [] e = cc
has_latest (card ∷ earlier) e = has_latest-step earlier card (has_latest earlier) (continues earlier card) refl

-- a card more at the end of the latest statement
cards_in-onto_latest : (card : Card) (statements : List Statement) → HasLatest statements → cards_in (onto_latest card statements) ≡ cards_in statements ++ card ∷ []
cards_in-onto_latest card statements found =
    ap (λ s. cards_in (onto_latest card s)) found.2
    ∙ sym (append_assoc (cards_in found.1) found.0.cards (card ∷ []))
    ∙ ap (λ s. cards_in s ++ card ∷ []) (sym found.2)

cards_in-step : (earlier : List Card) (card : Card) (b : Bool) → continues earlier card ≡ b → cards_in (statements_of (card ∷ earlier)) ≡ cards_in (statements_of earlier) ++ card ∷ []
cards_in-step earlier card true is = rw is (cards_in-onto_latest card (statements_of earlier) (has_latest earlier (has_owner-continues earlier card is)))
cards_in-step earlier card false is = rw is refl

-- the statements have all cards, in order
pub cards_in-statements_of : (cards : List Card) → cards_in (statements_of cards) ≡ reverse cards
cards_in-statements_of [] = refl
cards_in-statements_of (card ∷ earlier) = cards_in-step earlier card (continues earlier card) refl ∙ ap (λ l. l ++ card ∷ []) (cards_in-statements_of earlier) ∙ sym (reverse_onto earlier card [])

numbered-onto_latest : (card : Card) (latest : Statement) (others : List Statement) → AreNumbered (latest ∷ others) → AreNumbered (onto_latest card (latest ∷ others))
numbered-onto_latest card latest others h = h

numbered-step : (earlier : List Card) (card : Card) (b : Bool) → continues earlier card ≡ b → AreNumbered (statements_of earlier) → AreNumbered (statements_of (card ∷ earlier))
numbered-step earlier card true is h =
    let found = has_latest earlier (has_owner-continues earlier card is) in
    rw is (rw found.2 (numbered-onto_latest card found.0 found.1 (rw found.2 at h)))
numbered-step earlier card false is h = rw is (rw (cards_in-statements_of earlier) (sym (length-reverse earlier)), h)

-- each statement shows how many cards stand before it
pub numbered-statements_of : (cards : List Card) → AreNumbered (statements_of cards)
numbered-statements_of [] = tt
numbered-statements_of (card ∷ earlier) = numbered-step earlier card (continues earlier card) refl (numbered-statements_of earlier)
