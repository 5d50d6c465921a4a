-- Cards compared as they lie in memory.
use Rattle.std.{proofs.Common.{ℕ, ◌≡◌, inl, inr, ◌≢◌, List, Bool, true, false, nat_eq, length, take, refl, sym, ap, ap₂, ◌∙◌, arith}, specs.Prelude.is_some, specs.List.list_all, specs.Cmp.Lexicographic.{pointwise, bytes_decides}, proofs.lemmas.Bool.ne_eqb, proofs.lemmas.List.length-take-le}
use Rattle.definitions.{specs.Cards.padded, specs.Characters.{same_text, display_code_of}, proofs.TextLaws.same_text_tells}
use Rattle.cards.{specs.Joins.Columns.IsPadded, proofs.ColumnLaws.length-padded, proofs.ColumnSteps.lawful-padded}

-- a card is as long as it is said to be
length-kept : (len : ℕ) (columns : List ℕ) → IsPadded len columns → length (take len columns) ≡ len
length-kept len columns is =
    let all : length columns ≡ 80 = ap length is.blank_behind ∙ length-padded 80 (take len columns) in
    length-take-le len columns (omega (arith, is.within, all))

-- a card is lawful where all its columns are
pub lawful-columns : (len : ℕ) (columns : List ℕ) → IsPadded len columns → list_all (λ c. is_some (display_code_of c)) columns ≡ list_all (λ c. is_some (display_code_of c)) (take len columns)
lawful-columns len columns is =
    ap (list_all (λ c. is_some (display_code_of c))) is.blank_behind
    ∙ lawful-padded (take len columns) (let kept = length-kept len columns is in omega (arith, is.within, kept))

-- cards of one length are the same if all their columns are
pub columns-tell : (len other : ℕ) (columns others : List ℕ) → IsPadded len columns → IsPadded other others → len ≡ other → pointwise nat_eq columns others ≡ same_text (take len columns) (take other others)
columns-tell len other columns others is are long =
    elim (same_text_tells (take len columns) (take other others)) [
      | inl h ↦ (bytes_decides columns others).1 (is.blank_behind ∙ ap (padded 80) h.1 ∙ sym are.blank_behind) ∙ sym h.0
      | inr h ↦ by (pointwise nat_eq columns others) (λ e. h.1 (ap₂ take long ((bytes_decides columns others).0 e))) ∙ sym h.0
    ]
  where
    by : (b : Bool) → (b ≢ true) → b ≡ false
    by true is_not = absurd (is_not refl)
    by false is_not = refl

-- cards of different lengths are not
pub lengths-tell : (len other : ℕ) (columns others : List ℕ) → IsPadded len columns → IsPadded other others → len ≢ other → nat_eq len other ≡ same_text (take len columns) (take other others)
lengths-tell len other columns others is are differ =
    elim (same_text_tells (take len columns) (take other others)) [
      | inl h ↦ absurd (differ (sym (length-kept len columns is) ∙ ap length h.1 ∙ length-kept other others are))
      | inr h ↦ ne_eqb len other differ ∙ sym h.0
    ]
