-- The letters of an EXT hang on two facts: whether one of its names is unlawful, and whether one is not new.
use Rattle.std.{proofs.Common.{◌≡◌, ℕ, List, [], ◌∷◌, ◌++◌, Bool, true, false, ◌||◌, cond, eqb, filter, map, Option, Some, None, refl, sym, ap, ap₂, ◌∙◌}, specs.Prelude.{codes, is_some, if◌then◌else◌}, proofs.Math.Bool.{or-false, or_comm}, proofs.lemmas.List.map-append}
use Rattle.definitions.specs.{Blocks.is_named, Characters.{is_among, same_text}, Letters.{texts, in_order}, Settled.{Definition, defined_in}, Settling.{View, external, is_known, letter_where, external_letters}, declared.letter.Letter.Letter}
use Rattle.definitions.specs.declared.letter.Letter.TheVariants as letter
use Rattle.statement_coder.{specs.Joins.Externals.{has_unlawful, is_listed, has_known}, proofs.SeenLaws.{any_seen, seen-pushed, none-seen}}

abbrev names_of : List Definition → List (List ℕ)
names_of definitions = map (λ (definition : Definition). definition.name) definitions

-- a name that is defined is one of the names
named_in : (name : List ℕ) (so_far : List Definition) → is_some (defined_in name so_far) ≡ is_named name (names_of so_far)
named_in name [] = refl
named_in name (definition ∷ so_far) =
    elim (same_text name definition.name) as (λ t. is_some (if t then Some definition.form else defined_in name so_far) ≡ (t || is_named name (names_of so_far))) [
      | true ↦ refl
      | false ↦ named_in name so_far
    ]

-- V and D, each where it applies
abbrev two : Bool → Bool → List Letter
two unlawful known = letter_where unlawful letter.V ++ letter_where known letter.D

-- whether a character is the text of one of these letters
abbrev tells : ℕ → List Letter → Bool
tells c letters = is_among c (texts letters)

or_again : (a b : Bool) → (a || (a || b)) ≡ (a || b)
or_again true b = refl
or_again false b = refl

or_between : (a b : Bool) → (a || (b || (a || false))) ≡ (b || (a || false))
or_between true true = refl
or_between true false = refl
or_between false b = refl

or_behind : (a b : Bool) → (a || (b || false)) ≡ (b || (a || false))
or_behind a b = ap (λ (t : Bool). a || t) (or-false b) ∙ or_comm a b ∙ ap (λ (t : Bool). b || t) (sym (or-false a))

V_more : (c : ℕ) (unlawful known : Bool) → tells c (letter.V ∷ two unlawful known) ≡ tells c (two true known)
V_more c true known = or_again (eqb 86 c) (tells c (letter_where known letter.D))
V_more c false known = refl

D_more : (c : ℕ) (unlawful known : Bool) → tells c (letter.D ∷ two unlawful known) ≡ tells c (two unlawful true)
D_more c true true = or_between (eqb 68 c) (eqb 86 c)
D_more c true false = or_behind (eqb 68 c) (eqb 86 c)
D_more c false true = or_again (eqb 68 c) false
D_more c false false = refl

-- a name that is not new
or_known : (a s b l h : Bool) → (a || s) ≡ true → ((a || b) || ((s || l) || h)) ≡ true
or_known true s b l h e = refl
or_known false true true l h e = refl
or_known false true false l h e = refl
or_known false false b l h e = cc

-- a name that is new
or_new : (a s b l h : Bool) → (a || s) ≡ false → ((b || l) || h) ≡ ((a || b) || ((s || l) || h))
or_new true s b l h e = cc
or_new false true b l h e = cc
or_new false false true l h e = refl
or_new false false false l h e = refl

-- what the two facts are, behind the names so far
abbrev facts : View → List (Option (List ℕ)) → List (List ℕ) → List Letter
facts symbol names seen = two (has_unlawful names) (any_seen seen names || has_known symbol names)

-- one name more, once it is shown whether it is known
name_more : (c : ℕ) (symbol : View) (name : List ℕ) (names : List (Option (List ℕ))) (so_far : List Definition) (known : Bool) → (is_named name (names_of so_far) || is_some (symbol name)) ≡ known →
    ((before : List Definition) → tells c (external_letters symbol names before) ≡ tells c (facts symbol names (names_of before))) →
    tells c (letter_where known letter.D ++ external_letters symbol names (if known then so_far else so_far ++ external name ∷ [])) ≡ tells c (facts symbol (Some name ∷ names) (names_of so_far))
name_more c symbol name names so_far true e rest =
    let seen = names_of so_far in
    let b = any_seen seen names in
    let h = has_known symbol names in
    ap (λ (t : Bool). eqb 68 c || t) (rest so_far)
    ∙ D_more c (has_unlawful names) (b || h)
    ∙ ap (λ (t : Bool). tells c (two (has_unlawful names) t)) (sym (or_known (is_named name seen) (is_some (symbol name)) b (is_listed name names) h e))
name_more c symbol name names so_far false e rest =
    let seen = names_of so_far in
    let l = is_listed name names in
    let h = has_known symbol names in
    rest (so_far ++ external name ∷ [])
    ∙ ap (λ (ns : List (List ℕ)). tells c (facts symbol names ns)) (map-append (λ (definition : Definition). definition.name) so_far (external name ∷ []))
    ∙ ap (λ (t : Bool). tells c (two (has_unlawful names) (t || h))) (seen-pushed name seen names)
    ∙ ap (λ (t : Bool). tells c (two (has_unlawful names) t)) (or_new (is_named name seen) (is_some (symbol name)) (any_seen seen names) l h e)

letters-facts : (c : ℕ) (symbol : View) (names : List (Option (List ℕ))) (so_far : List Definition) → tells c (external_letters symbol names so_far) ≡ tells c (facts symbol names (names_of so_far))
letters-facts c symbol [] so_far = refl
letters-facts c symbol (None ∷ names) so_far =
    ap (λ (t : Bool). eqb 86 c || t) (letters-facts c symbol names so_far)
    ∙ V_more c (has_unlawful names) (any_seen (names_of so_far) names || has_known symbol names)
letters-facts c symbol (Some name ∷ names) so_far =
    name_more c symbol name names so_far (is_known symbol name so_far) (ap (λ (t : Bool). t || is_some (symbol name)) (sym (named_in name so_far))) (λ before. letters-facts c symbol names before)

-- tests that agree keep the same
filter_alike : (p q : ℕ → Bool) (cs : List ℕ) → ((c : ℕ) → p c ≡ q c) → filter p cs ≡ filter q cs
filter_alike p q [] same = refl
filter_alike p q (c ∷ cs) same = ap₂ (λ (t : Bool) (l : List ℕ). cond t (c ∷ l) l) (same c) (filter_alike p q cs same)

-- the letters of an EXT are V and D, each where it applies
pub unlawful_or_known : (symbol : View) (names : List (Option (List ℕ))) →
    in_order (letter_where (has_unlawful names) letter.V ++ letter_where (has_known symbol names) letter.D) ≡ in_order (external_letters symbol names [])
unlawful_or_known symbol names =
    filter_alike (λ c. tells c (two (has_unlawful names) (has_known symbol names))) (λ c. tells c (external_letters symbol names [])) (codes "ACDLORUVZ")
    (λ c. sym (letters-facts c symbol names []
    ∙ ap (λ (t : Bool). tells c (two (has_unlawful names) (t || has_known symbol names))) (none-seen names)))
