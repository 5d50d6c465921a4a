-- A deck known by its place is the deck of its name.
use Rattle.std.{proofs.Common.{◌≡◌, ℕ, ◌<◌, nat_lt, suc, Bool, true, false, cond, not, List, [], ◌∷◌, ◌++◌, length, map, filter, find, remove, get_or, Option, Some, None, is_some, position, refl, sym, ap, ◌∙◌, subst, arith, zero, inl, inr}, specs.Prelude.{slice_get, slice_set}, specs.List.{AllByRecursion, position_or_len}, proofs.lemmas.Bool.{cases_Bool, ltb-true, ltb-false}, proofs.lemmas.List.Folds.find_at, proofs.lemmas.Option.{cond_some, slice_get_past, slice_get-get_or}}
use Rattle.desk_core.{specs.Joins.Language.same_text, specs.Desks.{DeskDeck, is_named, put_if_named}, specs.Joins.OwnNames.{HaveOwnNames, IsPlaceOf, with_at}, proofs.Same.{equal_texts, same_text-itself}, proofs.TellingDecks.{none_found, found_told}}

-- texts that differ differ the other way round
pub differ-both : (a b : List ℕ) → same_text a b ≡ false → same_text b a ≡ false
differ-both a b differ = elim (cases_Bool (same_text b a)) [
  | inl same ↦ absurd (let e = equal_texts b a same in let itself = same_text-itself a in let told : same_text a a ≡ false = ap (λ (t : List ℕ). same_text a t) (sym e) ∙ differ in cc)
  | inr other ↦ other
]

-- which branch was not taken
pub not-taken : (b : Bool) (n : ℕ) → cond b (Some n) None ≡ None → b ≡ false
not-taken true n e = cc
not-taken false n e = refl

module _ {X : Type 0} where
  -- the element at a place where every one fails the test fails it
  fails-in : (test : X → Bool) (xs : List X) (place : ℕ) (x : X) → AllByRecursion (λ y. test y ≡ false) xs → slice_get xs place ≡ Some x → test x ≡ false
  fails-in test [] place x each at_place = cc
  fails-in test (y ∷ ys) zero x each at_place = let same : y ≡ x = cc in subst (λ z. test z ≡ false) same each.0
  fails-in test (y ∷ ys) (suc place) x each at_place = fails-in test ys place x each.1 at_place

  -- and so where nothing is found
  pub fails-at : (test : X → Bool) (xs : List X) (place : ℕ) (x : X) → find test xs ≡ None → slice_get xs place ≡ Some x → test x ≡ false
  fails-at test xs place x none at_place = fails-in test xs place x (none_found test xs none) at_place

  -- where there is no place nothing is found
  pub none-placed : (test : X → Bool) (xs : List X) → position test xs ≡ None → find test xs ≡ None
  none-placed test xs e =
      find_at test xs ∙ slice_get_past xs (position_or_len test xs) (ltb-false (position_or_len test xs) (length xs) (not-taken _ _ e))

  -- what is found stands at its place
  pub some-placed : (test : X → Bool) (xs : List X) (place : ℕ) → position test xs ≡ Some place → (find test xs ≡ slice_get xs place) × (place < length xs)
  some-placed test xs place e =
      let both = cond_some (nat_lt (position_or_len test xs) (length xs)) (position_or_len test xs) place e in
      let within = ltb-true (position_or_len test xs) (length xs) both.0 in
      let same : position_or_len test xs ≡ place = both.1 in
      (find_at test xs ∙ ap (λ (n : ℕ). slice_get xs n) same, subst (λ (n : ℕ). n < length xs) same within)

-- one deck in another form, by its place
pub set-with : (form : DeskDeck → DeskDeck) (decks : List DeskDeck) (place : ℕ) (deck : DeskDeck) → slice_get decks place ≡ Some deck → slice_set decks place (form deck) ≡ with_at place form decks
set-with form [] place deck at_place = cc
set-with form (d ∷ decks) zero deck at_place = let same : deck ≡ d = cc in ap (λ (e : DeskDeck). form e ∷ decks) same
set-with form (d ∷ decks) (suc place) deck at_place = ap (λ (rest : List DeskDeck). d ∷ rest) (set-with form decks place deck at_place)

-- so where the new form is written over the old
pub set-form : (form : DeskDeck → DeskDeck) (decks : List DeskDeck) (place : ℕ) (deck next : DeskDeck) → place < length decks → deck ≡ get_or decks place deck → next ≡ form deck →
    slice_set decks place next ≡ with_at place form decks
set-form form decks place deck next within is formed =
    ap (λ (d : DeskDeck). slice_set decks place d) formed ∙ set-with form decks place deck (slice_get-get_or decks place deck within ∙ ap (λ (d : DeskDeck). Some d) (sym is))

-- decks of which none has the name
untouched : (name : List ℕ) (form : DeskDeck → DeskDeck) (decks : List DeskDeck) → AllByRecursion (λ deck. is_named name deck ≡ false) decks → map (put_if_named name form) decks ≡ decks
untouched name form [] none = refl
untouched name form (deck ∷ decks) none =
    let head : put_if_named name form deck ≡ deck = ap (λ (b : Bool). cond b (form deck) deck) none.0 in
    let rest = untouched name form decks none.1 in cc

-- the deck of a name in another form, by its place
pub named-with : (form : DeskDeck → DeskDeck) (decks : List DeskDeck) (place : ℕ) (deck : DeskDeck) → HaveOwnNames decks → slice_get decks place ≡ Some deck →
    map (put_if_named deck.name form) decks ≡ with_at place form decks
named-with form [] place deck own at_place = refl
named-with form (d ∷ decks) zero deck own at_place =
    let same : d ≡ deck = cc in
    let itself : is_named deck.name d ≡ true = subst (λ (e : DeskDeck). is_named e.name d ≡ true) same (same_text-itself d.name) in
    let head : put_if_named deck.name form d ≡ form d = ap (λ (b : Bool). cond b (form d) d) itself in
    let none : find (is_named deck.name) decks ≡ None = subst (λ (e : DeskDeck). find (is_named e.name) decks ≡ None) same own.0 in
    let rest = untouched deck.name form decks (none_found (is_named deck.name) decks none) in cc
named-with form (d ∷ decks) (suc place) deck own at_place =
    let other : is_named deck.name d ≡ false = differ-both d.name deck.name (fails-at (is_named d.name) decks place deck own.0 at_place) in
    let head : put_if_named deck.name form d ≡ d = ap (λ (b : Bool). cond b (form d) d) other in
    let rest = named-with form decks place deck own.1 at_place in cc

-- decks of which none has the name, without the deck of that name
all-kept : (name : List ℕ) (decks : List DeskDeck) → AllByRecursion (λ deck. is_named name deck ≡ false) decks → filter (λ deck. not (is_named name deck)) decks ≡ decks
all-kept name [] none = refl
all-kept name (deck ∷ decks) none =
    let rest = all-kept name decks none.1 in
    ap (λ (b : Bool). cond (not b) (deck ∷ filter (λ deck. not (is_named name deck)) decks) (filter (λ deck. not (is_named name deck)) decks)) none.0 ∙ ap (λ (kept : List DeskDeck). deck ∷ kept) rest

-- decks without the deck of a name, by its place
pub named-removed : (decks : List DeskDeck) (place : ℕ) (deck : DeskDeck) → HaveOwnNames decks → slice_get decks place ≡ Some deck →
    filter (λ d. not (is_named deck.name d)) decks ≡ remove decks place
named-removed [] place deck own at_place = cc
named-removed (d ∷ decks) zero deck own at_place =
    let same : d ≡ deck = cc in
    let itself : is_named deck.name d ≡ true = subst (λ (e : DeskDeck). is_named e.name d ≡ true) same (same_text-itself d.name) in
    let none : find (is_named deck.name) decks ≡ None = subst (λ (e : DeskDeck). find (is_named e.name) decks ≡ None) same own.0 in
    let rest = all-kept deck.name decks (none_found (is_named deck.name) decks none) in
    ap (λ (b : Bool). cond (not b) (d ∷ filter (λ d. not (is_named deck.name d)) decks) (filter (λ d. not (is_named deck.name d)) decks)) itself ∙ rest
named-removed (d ∷ decks) (suc place) deck own at_place =
    let other : is_named deck.name d ≡ false = differ-both d.name deck.name (fails-at (is_named d.name) decks place deck own.0 at_place) in
    let rest = named-removed decks place deck own.1 at_place in
    ap (λ (b : Bool). cond (not b) (d ∷ filter (λ d. not (is_named deck.name d)) decks) (filter (λ d. not (is_named deck.name d)) decks)) other ∙ ap (λ (kept : List DeskDeck). d ∷ kept) rest

-- where nothing is found the first fails
pub fails-head : (pass : Bool) (d : DeskDeck) (rest : Option DeskDeck) → cond pass (Some d) rest ≡ None → (pass ≡ false) × (rest ≡ None)
fails-head true d rest none = cc
fails-head false d rest none = (refl, none)

none-other : (pass : Bool) (d other : DeskDeck) (rest : Option DeskDeck) → cond pass (Some d) rest ≡ None → cond pass (Some other) rest ≡ None
none-other true d other rest none = cc
none-other false d other rest none = none

-- each deck of a list fails a test where one of its places has another form that fails it as before
find-with : (name : List ℕ) (form : DeskDeck → DeskDeck) (decks : List DeskDeck) (place : ℕ) → ((deck : DeskDeck) → (form deck).name ≡ deck.name) →
    find (is_named name) decks ≡ None → find (is_named name) (with_at place form decks) ≡ None
find-with name form [] place keeps none = refl
find-with name form (d ∷ decks) zero keeps none =
    ap (λ (text : List ℕ). cond (same_text name text) (Some (form d)) (find (is_named name) decks)) (keeps d) ∙ none-other (is_named name d) d (form d) (find (is_named name) decks) none
find-with name form (d ∷ decks) (suc place) keeps none =
    let head = fails-head (is_named name d) d (find (is_named name) decks) none in
    ap (λ (b : Bool). cond b (Some d) (find (is_named name) (with_at place form decks))) head.0 ∙ find-with name form decks place keeps head.1

-- decks keep names of their own where one has another form under its name
pub own-with : (form : DeskDeck → DeskDeck) (decks : List DeskDeck) (place : ℕ) → ((deck : DeskDeck) → (form deck).name ≡ deck.name) → HaveOwnNames decks → HaveOwnNames (with_at place form decks)
own-with form [] place keeps own = own
own-with form (d ∷ decks) zero keeps own = (subst (λ (name : List ℕ). find (is_named name) decks ≡ None) (sym (keeps d)) own.0, own.1)
own-with form (d ∷ decks) (suc place) keeps own = (find-with d.name form decks place keeps own.0, own-with form decks place keeps own.1)

find-removed : (name : List ℕ) (decks : List DeskDeck) (place : ℕ) → find (is_named name) decks ≡ None → find (is_named name) (remove decks place) ≡ None
find-removed name [] zero none = refl
find-removed name [] (suc place) none = refl
find-removed name (d ∷ decks) zero none = (fails-head (is_named name d) d (find (is_named name) decks) none).1
find-removed name (d ∷ decks) (suc place) none =
    let head = fails-head (is_named name d) d (find (is_named name) decks) none in
    ap (λ (b : Bool). cond b (Some d) (find (is_named name) (remove decks place))) head.0 ∙ find-removed name decks place head.1

-- and where one goes
pub own-removed : (decks : List DeskDeck) (place : ℕ) → HaveOwnNames decks → HaveOwnNames (remove decks place)
own-removed [] zero own = tt
own-removed [] (suc place) own = tt
own-removed (d ∷ decks) zero own = own.1
own-removed (d ∷ decks) (suc place) own = (find-removed d.name decks place own.0, own-removed decks place own.1)

find-added : (name : List ℕ) (decks : List DeskDeck) (deck : DeskDeck) → find (is_named name) decks ≡ None → is_named name deck ≡ false → find (is_named name) (decks ++ deck ∷ []) ≡ None
find-added name [] deck none other = ap (λ (b : Bool). cond b (Some deck) None) other
find-added name (d ∷ decks) deck none other =
    let head = fails-head (is_named name d) d (find (is_named name) decks) none in
    ap (λ (b : Bool). cond b (Some d) (find (is_named name) (decks ++ deck ∷ []))) head.0 ∙ find-added name decks deck head.1 other

-- and where one of a new name comes in behind them
pub own-added : (decks : List DeskDeck) (deck : DeskDeck) → find (is_named deck.name) decks ≡ None → HaveOwnNames decks → HaveOwnNames (decks ++ deck ∷ [])
own-added [] deck none own = (refl, tt)
own-added (d ∷ decks) deck none own =
    let head = fails-head (is_named deck.name d) d (find (is_named deck.name) decks) none in
    (find-added d.name decks deck own.0 (differ-both deck.name d.name head.0), own-added decks deck head.1 own.1)

-- both, where the new form is written over the old
pub formed-at : (form : DeskDeck → DeskDeck) (decks : List DeskDeck) (place : ℕ) (deck next : DeskDeck) → ((d : DeskDeck) → (form d).name ≡ d.name) →
    HaveOwnNames decks → place < length decks → deck ≡ get_or decks place deck → next ≡ form deck →
    HaveOwnNames (slice_set decks place next) × (slice_set decks place next ≡ with_at place form decks)
formed-at form decks place deck next keeps own within is formed =
    let same = set-form form decks place deck next within is formed in
    (subst HaveOwnNames (sym same) (own-with form decks place keeps own), same)

-- a place that stays as it was
with-itself : (decks : List DeskDeck) (place : ℕ) → with_at place (λ deck. deck) decks ≡ decks
with-itself [] place = refl
with-itself (d ∷ decks) zero = refl
with-itself (d ∷ decks) (suc place) = ap (λ (rest : List DeskDeck). d ∷ rest) (with-itself decks place)

-- both, where the form is made or the deck stays as it was
pub formed-if : (ok : Bool) (form : DeskDeck → DeskDeck) (decks : List DeskDeck) (place : ℕ) (deck next : DeskDeck) → ((d : DeskDeck) → (form d).name ≡ d.name) →
    HaveOwnNames decks → place < length decks → deck ≡ get_or decks place deck → next ≡ cond ok (form deck) deck →
    HaveOwnNames (slice_set decks place next) × (slice_set decks place next ≡ cond ok (with_at place form decks) decks)
formed-if true form decks place deck next keeps own within is formed = formed-at form decks place deck next keeps own within is formed
formed-if false form decks place deck next keeps own within is formed =
    let both = formed-at (λ d. d) decks place deck next (λ d. refl) own within is formed in (both.0, both.1 ∙ with-itself decks place)

-- the place that a search gives
pub placed : (test : DeskDeck → Bool) (place : Option ℕ) (decks : List DeskDeck) → HaveOwnNames decks → place ≡ position test decks → IsPlaceOf test place decks
placed test place decks own is = record { own = own; none = λ e. none-placed test decks (sym is ∙ e); some = λ p e. some-placed test decks p (sym is ∙ e) }

-- the deck at a place
pub element-at : (decks : List DeskDeck) (place : ℕ) → place < length decks → (deck : DeskDeck) × (slice_get decks place ≡ Some deck)
element-at [] place within = absurd (omega arith)
element-at (d ∷ decks) zero within = (d, refl)
element-at (d ∷ decks) (suc place) within = element-at decks place (omega arith)

-- whether there is a place
pub is-found : (test : DeskDeck → Bool) (place : Option ℕ) (decks : List DeskDeck) → IsPlaceOf test place decks → is_some place ≡ is_some (find test decks)
is-found test None decks is = ap (λ (found : Option DeskDeck). is_some found) (sym (is.none refl))
is-found test (Some p) decks is =
    let both = is.some p refl in
    let there = element-at decks p both.1 in
    ap (λ (found : Option DeskDeck). is_some found) (sym (both.0 ∙ there.1))

pub each : (decks : List DeskDeck) → AllByRecursion (λ d. Unit {0}) decks
each [] = tt
each (d ∷ ds) = (tt, each ds)

-- the name that was asked for is that of the deck that was found
pub name-found : (name : List ℕ) (decks : List DeskDeck) (deck : DeskDeck) → find (is_named name) decks ≡ Some deck → name ≡ deck.name
name-found name decks deck found = equal_texts name deck.name (found_told (λ d. Unit {0}) (is_named name) decks deck (each decks) found).1

-- the deck of a name in another form, by the place where it was found
pub found-with : (name : List ℕ) (form : DeskDeck → DeskDeck) (decks : List DeskDeck) (place : ℕ) (deck : DeskDeck) → HaveOwnNames decks →
    find (is_named name) decks ≡ Some deck → slice_get decks place ≡ Some deck → map (put_if_named name form) decks ≡ with_at place form decks
found-with name form decks place deck own found at_place =
    ap (λ (text : List ℕ). map (put_if_named text form) decks) (name-found name decks deck found) ∙ named-with form decks place deck own at_place

-- and without it
pub found-removed : (name : List ℕ) (decks : List DeskDeck) (place : ℕ) (deck : DeskDeck) → HaveOwnNames decks →
    find (is_named name) decks ≡ Some deck → slice_get decks place ≡ Some deck → filter (λ d. not (is_named name d)) decks ≡ remove decks place
found-removed name decks place deck own found at_place =
    ap (λ (text : List ℕ). filter (λ d. not (is_named text d)) decks) (name-found name decks deck found) ∙ named-removed decks place deck own at_place
