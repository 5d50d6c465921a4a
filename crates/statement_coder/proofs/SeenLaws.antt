-- Names of an EXT that were seen before.
use Rattle.std.{proofs.Common.{◌≡◌, ℕ, List, [], ◌∷◌, ◌++◌, Bool, true, false, ◌||◌, Option, Some, None, refl, sym, ap, ap₂, ◌∙◌}, specs.Prelude.is_some, proofs.Math.Bool.{or-false, or_comm, or_assoc}, proofs.lemmas.List.Folds.list_any-append}
use Rattle.definitions.specs.{Blocks.is_named, Characters.same_text, Settling.View}
use Rattle.statement_coder.specs.Joins.Externals.{has_known, is_listed}

-- whether one of these names was seen before
abbrev pub any_seen : List (List ℕ) → List (Option (List ℕ)) → Bool
any_seen seen [] = false
any_seen seen (None ∷ names) = any_seen seen names
any_seen seen (Some name ∷ names) = is_named name seen || any_seen seen names

or_pairs : (a s b l : Bool) → ((a || s) || (b || l)) ≡ ((a || b) || (s || l))
or_pairs true s b l = refl
or_pairs false true true l = refl
or_pairs false true false l = refl
or_pairs false false b l = refl

named-pushed : (other name : List ℕ) (seen : List (List ℕ)) → is_named other (seen ++ name ∷ []) ≡ (is_named other seen || same_text other name)
named-pushed other name seen =
    list_any-append (same_text other) seen (name ∷ []) ∙ ap (λ (b : Bool). is_named other seen || b) (or-false (same_text other name))

-- a name more was seen
pub seen-pushed : (name : List ℕ) (seen : List (List ℕ)) (names : List (Option (List ℕ))) → any_seen (seen ++ name ∷ []) names ≡ (any_seen seen names || is_listed name names)
seen-pushed name seen [] = refl
seen-pushed name seen (None ∷ names) = seen-pushed name seen names
seen-pushed name seen (Some other ∷ names) =
    ap₂ (λ (s t : Bool). s || t) (named-pushed other name seen) (seen-pushed name seen names)
    ∙ or_pairs (is_named other seen) (same_text other name) (any_seen seen names) (is_listed name names)

-- at first none was
pub none-seen : (names : List (Option (List ℕ))) → any_seen [] names ≡ false
none-seen [] = refl
none-seen (None ∷ names) = none-seen names
none-seen (Some name ∷ names) = none-seen names

-- a name that is new, and kept in mind from then on
pub seen-more : (symbol : View) (name : List ℕ) (seen : List (List ℕ)) (names : List (Option (List ℕ))) → is_some (symbol name) ≡ false → is_named name seen ≡ false →
    (has_known symbol names || any_seen (seen ++ name ∷ []) names) ≡ (has_known symbol (Some name ∷ names) || any_seen seen (Some name ∷ names))
seen-more symbol name seen names undefined unseen =
    ap (λ (t : Bool). has_known symbol names || t) (seen-pushed name seen names)
    ∙ or_comm (has_known symbol names) (any_seen seen names || is_listed name names)
    ∙ or_assoc (any_seen seen names) (is_listed name names) (has_known symbol names)
    ∙ or_comm (any_seen seen names) (is_listed name names || has_known symbol names)
    ∙ sym (ap₂ (λ (d a : Bool). (d || is_listed name names || has_known symbol names) || (a || any_seen seen names)) undefined unseen)
