-- What holds of the decks of each desk, and a deck known by its place (ours).
use Rattle.std.specs.{Prelude.{◌≡◌, ⊤, ℕ, suc, zero, ◌<◌, Bool, List, [], ◌∷◌, length, find, slice_get, Option, None}, Option.ForSome}
use Rattle.desk_core.specs.Desks.{Desk, DeskDeck, is_named, is_leased}

-- no deck has the name of one before it
abbrev pub HaveOwnNames : List DeskDeck → Type 0
HaveOwnNames [] = ⊤
HaveOwnNames (deck ∷ decks) = (find (is_named deck.name) decks ≡ None) × HaveOwnNames decks

-- decks, the one at a place in another form
abbrev pub with_at : ℕ → (DeskDeck → DeskDeck) → List DeskDeck → List DeskDeck
with_at place form [] = []
with_at zero form (deck ∷ decks) = form deck ∷ decks
with_at (suc place) form (deck ∷ decks) = deck ∷ with_at place form decks

-- a desk, its deck at a place in another form
abbrev pub changed_at : ℕ → (DeskDeck → DeskDeck) → Desk → Desk
changed_at place form desk = record desk { decks = with_at place form desk.decks }

-- whether a deck has the lease of this number
abbrev pub has_lease : ℕ → DeskDeck → Bool
has_lease number deck = is_leased number deck.lease

-- the place of the first deck that passes a test, or none
pub record IsPlaceOf (test : DeskDeck → Bool) (place : Option ℕ) (decks : List DeskDeck) : Type 0 where
  pub own : HaveOwnNames decks
  pub none : place ≡ None → find test decks ≡ None
  pub some : ForSome place (λ p. (find test decks ≡ slice_get decks p) × (p < length decks))
