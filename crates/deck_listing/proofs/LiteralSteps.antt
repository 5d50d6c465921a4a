-- The lines of literals, one after the other.
use Rattle.std.{proofs.Common.{◌≡◌, ℕ, ◌+◌, ◌≤◌, List, [], ◌∷◌, ◌++◌, drop, refl, sym, ap, ◌∙◌, append-nil, Some, None, nat_le, arith, inl, inr, true≢false}, specs.Prelude.if◌then◌else◌, proofs.lemmas.Bool.Decides.leb_tells}
use Rattle.definitions.specs.{Kinds.memory_end, declared.deck_kind.DeckKind.DeckKind}
use Rattle.deck_listing.{specs.Joins.ImageWordLines.literal_lines, proofs.ImageLineSteps.{is_beyond_end}}

-- literals beyond the memory have no lines
beyond_none : (kind : DeckKind) (base offset : ℕ) (literals : List ℕ) → memory_end kind ≤ base + offset → literal_lines kind base offset literals ≡ []
beyond_none kind base offset [] h = refl
beyond_none kind base offset (value ∷ literals) h = elim (leb_tells (memory_end kind) (base + offset)) [
  | inl e ↦ rw e.0 (beyond_none kind base (offset + 1) literals (omega arith))
  | inr e ↦ let k = e.1 in absurd (omega arith)
]

-- the literals that are left lie beyond the memory
pub literal_none : (kind : DeckKind) (base : ℕ) (literals : List ℕ) (i : ℕ) (before all : List ℕ) → before ++ literal_lines kind base i (drop i literals) ≡ all →
    (if nat_le (memory_end kind) (base + i) then None else Some (base + i)) ≡ None → before ≡ all
literal_none kind base literals i before all h beyond = elim (leb_tells (memory_end kind) (base + i)) [
  | inl e ↦ sym (append-nil before) ∙ ap (λ t. before ++ t) (sym (beyond_none kind base i (drop i literals) e.1)) ∙ h
  | inr e ↦ absurd (true≢false (sym (is_beyond_end (nat_le (memory_end kind) (base + i)) (base + i) beyond) ∙ e.0))
]
