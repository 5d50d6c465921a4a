-- What is published of decks, from their layout.
use Rattle.std.{proofs.Common.{◌≡◌, ℕ, ◌+◌, ◌<◌, List, length, drop, get_or, sym, ap, ◌∙◌, arith}, specs.Prelude.map, proofs.lemmas.List.at_drop_more}
use Rattle.definitions.specs.{Build.errors_in, DeckInput.Deck, Listing.errors_of, Objects.object_of}

-- the flagged statements of a deck more
pub errors-step : (decks : List Deck) (i : ℕ) (deck : Deck) (old new more all : ℕ) → i < length decks → deck ≡ get_or decks i deck → old + errors_in (map object_of (drop i decks)) ≡ all →
    new ≡ old + more → more ≡ errors_of (object_of deck) → new + errors_in (map object_of (drop (i + 1) decks)) ≡ all
errors-step decks i deck old new more all inside is h e f =
    let rest = errors_in (map object_of (drop (i + 1) decks)) in
    let split : errors_in (map object_of (drop i decks)) ≡ errors_of (object_of deck) + rest =
    at_drop_more (λ l. errors_in (map object_of l)) decks i deck inside ∙ ap (λ (d : Deck). errors_of (object_of d) + rest) (sym is) in
    omega (arith, h, e, f, split)
