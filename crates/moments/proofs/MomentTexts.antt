-- What each character of a moment has: what digits have, and the characters of the form.
use Rattle.std.{proofs.Common.{ℕ, ◌≡◌, ◌≤◌, ◌==◌, Bool, true, false, List, [], ◌∷◌, length, refl, sym, ap, ◌∙◌, arith, if◌then◌else◌, eqb-true}, specs.List.list_all, proofs.lemmas.Bool.{and_parts, and_from}}
use Rattle.definitions.specs.Characters.{is_digit, zero_digit}
use Rattle.moments.specs.Moments.{moment_form, fits_one, fits, is_moment}

fitting : (p : ℕ → Bool) → ((c : ℕ) → is_digit c ≡ true → p c ≡ true) → (form c : ℕ) → p form ≡ true → fits_one form c ≡ true → p c ≡ true
fitting p digits form c has is = by (form == zero_digit) refl
  where
    by : (t : Bool) → (form == zero_digit) ≡ t → p c ≡ true
    by true e = digits c (sym (ap (λ (t : Bool). if t then is_digit c else c == form) e) ∙ is)
    by false e =
        let same : c ≡ form = eqb-true c form (sym (ap (λ (t : Bool). if t then is_digit c else c == form) e) ∙ is) in
        ap p same ∙ has

fitting-all : (p : ℕ → Bool) → ((c : ℕ) → is_digit c ≡ true → p c ≡ true) → (forms text : List ℕ) → length text ≤ length forms → list_all p forms ≡ true → fits forms text ≡ true → list_all p text ≡ true
fitting-all p digits forms [] few all is = refl
fitting-all p digits [] (c ∷ cs) few all is = absurd (omega (arith, few))
fitting-all p digits (form ∷ forms) (c ∷ cs) few all is =
    let tests = and_parts (p form) (list_all p forms) all in
    let parts = and_parts (fits_one form c) (fits forms cs) is in
    and_from (p c) (list_all p cs) (fitting p digits form c tests.0 parts.0) (fitting-all p digits forms cs (omega (arith, few)) tests.1 parts.1)

pub moment-length : (text : List ℕ) → is_moment text ≡ true → length text ≡ 20
moment-length text is = eqb-true (length text) 20 (and_parts (length text == 20) (fits moment_form text) is).0

pub moment-all : (p : ℕ → Bool) → ((c : ℕ) → is_digit c ≡ true → p c ≡ true) → list_all p moment_form ≡ true → (text : List ℕ) → is_moment text ≡ true → list_all p text ≡ true
moment-all p digits form text is =
    let n = moment-length text is in
    fitting-all p digits moment_form text (omega (arith, n)) form (and_parts (length text == 20) (fits moment_form text) is).1
