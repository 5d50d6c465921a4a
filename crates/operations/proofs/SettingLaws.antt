-- A text is no other one that is longer or shorter.
use Rattle.std.proofs.Common.{◌≡◌, ℕ, List, false, length, sym, ap, inl, inr}
use Rattle.definitions.{specs.Characters.same_text, proofs.TextLaws.same_text_tells}

pub other_length : (text other : List ℕ) → (length text ≡ length other → ⊥) → false ≡ same_text text other
other_length text other differ =
    elim (same_text_tells text other) [
      | inl h ↦ absurd (differ (ap length h.1))
      | inr h ↦ sym h.0
    ]
