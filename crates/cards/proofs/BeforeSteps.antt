-- What stands before the next card.
use Rattle.std.proofs.Common.{◌≡◌, ℕ, ◌+◌, ◌≤◌, List, ◌∷◌, Bool, true, false, refl, ap, add-one, arith}
use Rattle.definitions.specs.{Cards.{Card, is_comma_card}, Statements.{comma_cards, has_owner}}
use Rattle.cards.specs.{declared.statement_list.Before.Before, Joins.Befores.{before_of, with_card}}

abbrev made : ℕ → Bool → Before
made count owned = record { comma_cards = count; has_owner = owned }

before_of-step : (earlier : List Card) (card : Card) (b : Bool) → is_comma_card card ≡ b → with_card card (before_of earlier) ≡ before_of (card ∷ earlier)
before_of-step earlier card true is = rw is (ap (λ n. made n (has_owner earlier)) (add-one (comma_cards earlier)))
before_of-step earlier card false is = rw is refl

-- one card more
pub before_of-more : (earlier : List Card) (card : Card) → with_card card (before_of earlier) ≡ before_of (card ∷ earlier)
before_of-more earlier card = before_of-step earlier card (is_comma_card card) refl

few-step : (before : Before) (card : Card) (k : ℕ) (b : Bool) → is_comma_card card ≡ b → before.comma_cards ≤ k → (with_card card before).comma_cards ≤ k + 1
few-step before card k true is few = rw is (omega arith)
few-step before card k false is few = rw is (omega arith)

-- at most one comma card more
pub few-more : (before : Before) (card : Card) (k : ℕ) → before.comma_cards ≤ k → (with_card card before).comma_cards ≤ k + 1
few-more before card k few = few-step before card k (is_comma_card card) refl few
