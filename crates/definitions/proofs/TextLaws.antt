-- What the test of two texts shows.
use Rattle.std.proofs.{Common.{ℕ, ◌≡◌, ◌≢◌, ◌⊎◌, inl, inr, List, [], ◌∷◌, Bool, true, false, ◌&&◌, refl, ap, ap₂}, lemmas.Bool.Decides.eqb_tells}
use Rattle.definitions.specs.Characters.{same_text}

-- what the test of two texts shows
pub same_text_tells : (a b : List ℕ) → ((same_text a b ≡ true) × (a ≡ b)) ⊎ ((same_text a b ≡ false) × (a ≢ b))
same_text_tells [] [] = inl (refl, refl)
same_text_tells [] (d ∷ b) = inr (refl, λ e. cc)
same_text_tells (c ∷ a) [] = inr (refl, λ e. cc)
same_text_tells (c ∷ a) (d ∷ b) =
    elim (eqb_tells c d) [
      | inl h ↦ elim (same_text_tells a b) [
        | inl k ↦ inl (ap₂ (λ (s t : Bool). s && t) h.0 k.0, cc)
        | inr k ↦ inr (ap₂ (λ (s t : Bool). s && t) h.0 k.0, λ e. k.1 (cc))
      ]
      | inr h ↦ inr (ap (λ (s : Bool). s && same_text a b) h.0, λ e. h.1 (cc))
    ]

-- texts that test the same are the same
pub same_text-true : (a b : List ℕ) → same_text a b ≡ true → a ≡ b
same_text-true a b h = elim (same_text_tells a b) [ inl k ↦ k.1 | inr k ↦ cc ]

-- a text tests the same as itself
pub same_text-refl : (a : List ℕ) → same_text a a ≡ true
same_text-refl a = elim (same_text_tells a a) [ inl k ↦ k.0 | inr k ↦ absurd (k.1 refl) ]
