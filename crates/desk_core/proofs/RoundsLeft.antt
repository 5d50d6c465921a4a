-- How many rounds a desk needs still: a measure over its decks and its link, and decks of which the one at a place has another form.
use Rattle.std.{proofs.Common.{◌≡◌, ℕ, zero, suc, ◌+◌, ◌*◌, ◌≤◌, Bool, true, false, cond, not, ◌||◌, List, [], ◌∷◌, length, find, is_some, Option, Some, None, refl, sym, ap, ◌∙◌, arith}, specs.Prelude.{slice_get, if◌then◌else◌}, specs.List.{list_any, position_or_len}, proofs.lemmas.Bool.{cond-true, cond-false}, proofs.lemmas.List.Folds.find_at}
use Rattle.desk_core.{specs.Desks.{Desk, DeskDeck, Kept, Lease, is_leased}, specs.Claiming.{is_behind, is_published}, specs.Joins.OwnNames.{with_at, has_lease}, specs.Progress.is_given, specs.Rounds.most_rounds, proofs.Progress.neither}

-- how many rounds a deck needs at most: none with an object of its version, two with a record, which may be of other cards, and else one
abbrev pub rounds_with : Bool → Option Kept → ℕ
rounds_with true kept = 0
rounds_with false None = 1
rounds_with false (Some kept) = 2

abbrev pub rounds_of : DeskDeck → ℕ
rounds_of deck = rounds_with deck.built deck.kept

abbrev pub rounds_in : List DeskDeck → ℕ
rounds_in [] = 0
rounds_in (deck ∷ decks) = rounds_of deck + rounds_in decks

-- how many the link needs
abbrev pub link_rounds : Desk → ℕ
link_rounds desk = if is_published desk.version desk.publication then 0 else 1

-- how many all need
abbrev pub rounds_left : Desk → ℕ
rounds_left desk = rounds_in desk.decks + link_rounds desk

at_most_two : (built : Bool) (kept : Option Kept) → rounds_with built kept ≤ 2
at_most_two true kept = omega arith
at_most_two false None = omega arith
at_most_two false (Some kept) = omega arith

few_in : (decks : List DeskDeck) → rounds_in decks ≤ 2 * length decks
few_in [] = omega arith
few_in (deck ∷ decks) = let here = at_most_two deck.built deck.kept in let later = few_in decks in omega arith

at_most_one : (published : Bool) → cond published 0 1 ≤ 1
at_most_one true = omega arith
at_most_one false = omega arith

-- no desk needs more than two for each deck and one
pub few_left : (desk : Desk) → rounds_left desk ≤ most_rounds desk
few_left desk = let decks = few_in desk.decks in let link = at_most_one (is_published desk.version desk.publication) in omega arith

some_with : (built : Bool) (kept : Option Kept) → built ≡ false → 1 ≤ rounds_with built kept
some_with true kept unbuilt = cc
some_with false None unbuilt = omega arith
some_with false (Some kept) unbuilt = omega arith

-- a deck that is behind needs one
pub some_of : (deck : DeskDeck) → deck.built ≡ false → 1 ≤ rounds_of deck
some_of deck unbuilt = some_with deck.built deck.kept unbuilt

some_by : (built : Bool) (kept : Option Kept) (later : Bool) (more : ℕ) → (not built || later) ≡ true → (later ≡ true → 1 ≤ more) → 1 ≤ rounds_with built kept + more
some_by true kept later more behind rest = let one = rest behind in omega arith
some_by false kept later more behind rest = let one = some_with false kept refl in omega arith

-- so where a deck is behind some are left
pub some_in : (decks : List DeskDeck) → list_any is_behind decks ≡ true → 1 ≤ rounds_in decks
some_in [] behind = cc
some_in (deck ∷ decks) behind = some_by deck.built deck.kept (list_any is_behind decks) (rounds_in decks) behind (some_in decks)

module _ {X : Type 0} where
  -- the place of what is found
  pub place_found : (test : X → Bool) (xs : List X) (x : X) → find test xs ≡ Some x → (place : ℕ) × (slice_get xs place ≡ Some x)
  place_found test xs x found = (position_or_len test xs, sym (find_at test xs) ∙ found)

-- the deck at the place is in that form
pub get-with : (form : DeskDeck → DeskDeck) (decks : List DeskDeck) (place : ℕ) (deck : DeskDeck) → slice_get decks place ≡ Some deck → slice_get (with_at place form decks) place ≡ Some (form deck)
get-with form [] place deck at_place = cc
get-with form (d ∷ decks) zero deck at_place = let same : d ≡ deck = cc in ap (λ (one : DeskDeck). Some (form one)) same
get-with form (d ∷ decks) (suc place) deck at_place = get-with form decks place deck at_place

-- two forms at one place
pub with-twice : (first second : DeskDeck → DeskDeck) (decks : List DeskDeck) (place : ℕ) → with_at place second (with_at place first decks) ≡ with_at place (λ deck. second (first deck)) decks
with-twice first second [] place = refl
with-twice first second (d ∷ decks) zero = refl
with-twice first second (d ∷ decks) (suc place) = ap (λ (rest : List DeskDeck). d ∷ rest) (with-twice first second decks place)

-- what the decks need differs by what the deck at the place needs
pub rounds-with : (form : DeskDeck → DeskDeck) (decks : List DeskDeck) (place : ℕ) (deck : DeskDeck) → slice_get decks place ≡ Some deck →
    rounds_in (with_at place form decks) + rounds_of deck ≡ rounds_in decks + rounds_of (form deck)
rounds-with form [] place deck at_place = cc
rounds-with form (d ∷ decks) zero deck at_place =
    let same : d ≡ deck = cc in
    let before : rounds_of d ≡ rounds_of deck = ap (λ (one : DeskDeck). rounds_of one) same in
    let after : rounds_of (form d) ≡ rounds_of (form deck) = ap (λ (one : DeskDeck). rounds_of (form one)) same in
    omega arith
rounds-with form (d ∷ decks) (suc place) deck at_place = let rest = rounds-with form decks place deck at_place in omega arith

-- no deck is given where the one at the place is not
pub ungiven-with : (form : DeskDeck → DeskDeck) (decks : List DeskDeck) (place : ℕ) → ((deck : DeskDeck) → is_given (form deck) ≡ false) → list_any is_given decks ≡ false → list_any is_given (with_at place form decks) ≡ false
ungiven-with form [] place free none = refl
ungiven-with form (d ∷ decks) zero free none = ap (λ b. b || list_any is_given decks) (free d) ∙ (neither (is_given d) (list_any is_given decks) none).1
ungiven-with form (d ∷ decks) (suc place) free none =
    let both = neither (is_given d) (list_any is_given decks) none in
    ap (λ b. b || list_any is_given (with_at place form decks)) both.0 ∙ ungiven-with form decks place free both.1

unleased : (number : ℕ) (lease : Option Lease) → is_some lease ≡ false → is_leased number lease ≡ false
unleased number None none = refl
unleased number (Some lease) none = cc

-- the only deck that is given is found by its lease
pub found-leased : (number : ℕ) (form : DeskDeck → DeskDeck) (decks : List DeskDeck) (place : ℕ) (deck : DeskDeck) → ((one : DeskDeck) → has_lease number (form one) ≡ true) → list_any is_given decks ≡ false →
    slice_get decks place ≡ Some deck → find (has_lease number) (with_at place form decks) ≡ Some (form deck)
found-leased number form [] place deck leased none at_place = cc
found-leased number form (d ∷ decks) zero deck leased none at_place =
    let same : d ≡ deck = cc in
    cond-true (has_lease number (form d)) (Some (form d)) (find (has_lease number) decks) (leased d) ∙ ap (λ (one : DeskDeck). Some (form one)) same
found-leased number form (d ∷ decks) (suc place) deck leased none at_place =
    let both = neither (is_given d) (list_any is_given decks) none in
    cond-false (has_lease number d) (Some d) (find (has_lease number) (with_at place form decks)) (unleased number d.lease both.0) ∙ found-leased number form decks place deck leased both.1 at_place
