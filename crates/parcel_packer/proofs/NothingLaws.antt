-- Where nothing lies in the runs of a block there is no word, and where something lies there is one.
use Rattle.std.{proofs.Common.{arith, ◌≡◌, ℕ, ◌/◌, List, [], ◌∷◌, ◌++◌, refl, ap, sym, subst, reverse, ◌∙◌, length}, specs.Prelude.{Bool, true, false, not, ◌||◌, ◌≢◌, nat_eq, nat_lt, if◌then◌else◌, Vec}, specs.List.list_any, proofs.lemmas.Bool.{true≢false, not-true, not-false, lt-ltb}, proofs.lemmas.List.Sorted.{list_any-IsPermutation, IsPermutation-reverse}}
use Rattle.definitions.{specs.Kinds.{units, unit_bits}, specs.Words.{Parcel, cut, parcels_from, with_number, words_in}, specs.declared.deck_kind.DeckKind.DeckKind, proofs.WordLaws.{with_words_of, words_in-run}}
use Rattle.parcel_packer.{specs.Joins.Filling.is_none_there, specs.Joins.Packing.{Packed, runs_in}, specs.Joins.Spans.{has_parcel, lies_in, parcels_in, parcels_in_runs, run_of}, specs.declared.spans.Span.Span, specs.declared.spans.OpenParcel.OpenParcel, proofs.PackedLaws.block, proofs.PackingLaws.cut-length}

-- whether there is a number
abbrev pub has_number : List ℕ → Bool
has_number [] = false
has_number (n ∷ ns) = true

-- whether there is a parcel
abbrev is_some : List Parcel → Bool
is_some parcels = not (is_none_there parcels)

either_some : (is_same is_less : Bool) (m n : ℕ) (ms ns rest : List ℕ) → has_number (if is_same then m ∷ ms else if is_less then n ∷ ns else m ∷ rest) ≡ true
either_some true is_less m n ms ns rest = refl
either_some false true m n ms ns rest = refl
either_some false false m n ms ns rest = refl

with_some : (n : ℕ) (ns : List ℕ) → has_number (with_number n ns) ≡ true
with_some n [] = refl
with_some n (m ∷ ms) = either_some (nat_eq n m) (nat_lt n m) m n ms (m ∷ ms) (with_number n ms)

run_some : (kind : DeckKind) (run : List Parcel) (ns : List ℕ) → has_number (with_words_of kind run ns) ≡ (is_some run || has_number ns)
run_some kind [] ns = refl
run_some kind (parcel ∷ run) ns = with_some (parcel.place / units kind) (with_words_of kind run ns)

words_some : (kind : DeckKind) (runs : List (List Parcel)) → has_number (words_in kind runs) ≡ list_any is_some runs
words_some kind [] = refl
words_some kind (run ∷ runs) =
    ap has_number (words_in-run kind run runs) ∙ run_some kind run (words_in kind runs) ∙ ap (λ b. is_some run || b) (words_some kind runs)

front_some : (is_instruction : Bool) (place : ℕ) (bits : List ℕ) (more : List Parcel) →
    is_some (parcels_from is_instruction place bits ++ more) ≡ (nat_lt 0 (length bits) || is_some more)
front_some is_instruction place [] more = refl
front_some is_instruction place (first ∷ bits) more = rw (lt-ltb 0 (length (first ∷ bits)) (omega arith)) refl

spans_some : (size : ℕ) (spans : List Span) → is_some (parcels_in size spans) ≡ list_any has_parcel spans
spans_some size [] = refl
spans_some size (span ∷ spans) =
    front_some span.is_instruction span.place (cut size span.count span.bits) (parcels_in size spans)
    ∙ ap (λ n. nat_lt 0 n || is_some (parcels_in size spans)) (cut-length size span.count span.bits) ∙ ap (λ b. nat_lt 0 span.count || b) (spans_some size spans)

runs_some : {Z : Type 0} (size : ℕ) (runs : List (Vec Span Z)) → list_any is_some (parcels_in_runs size runs) ≡ list_any lies_in runs
runs_some size [] = refl
runs_some size (run ∷ runs) =
    ap (λ b. b || list_any is_some (parcels_in_runs size runs)) (spans_some size run.items)
    ∙ ap (λ b. list_any has_parcel run.items || b) (runs_some size runs)

-- a block has a word exactly where something lies in one of its runs
pub block_some : {Z : Type 0} (packed : Packed) (kind : DeckKind) (spans : List Span) (next : OpenParcel) (runs : List (Vec Span Z)) →
    block kind (run_of (unit_bits kind) spans next) (reverse (parcels_in_runs (unit_bits kind) runs)) ≡ packed →
    has_number (words_in packed.kind (runs_in packed)) ≡ (list_any has_parcel spans || list_any lies_in runs)
block_some packed kind spans next runs view =
    let After : Packed → Type 0 = λ p. has_number (words_in p.kind (runs_in p)) ≡ (list_any has_parcel spans || list_any lies_in runs) in
    let earlier = parcels_in_runs (unit_bits kind) runs in
    subst After view
    (words_some kind (parcels_in (unit_bits kind) spans ∷ reverse earlier)
    ∙ ap (λ b. b || list_any is_some (reverse earlier)) (spans_some (unit_bits kind) spans)
    ∙ ap (λ b. list_any has_parcel spans || b) (sym (list_any-IsPermutation is_some earlier (reverse earlier) (IsPermutation-reverse earlier)) ∙ runs_some (unit_bits kind) runs))

none_there : (ns : List ℕ) → has_number ns ≡ false → ns ≡ []
none_there [] h = refl
none_there (n ∷ ns) h = absurd (true≢false h)

some_there : (ns : List ℕ) → has_number ns ≡ true → ns ≢ []
some_there ns h = λ e. true≢false (sym h ∙ ap has_number e)

or_none : (a b : Bool) → a ≡ false → b ≡ false → (a || b) ≡ false
or_none a b p q = rw (p, q) refl

or_second : (a b : Bool) → a ≡ false → b ≡ true → (a || b) ≡ true
or_second a b p q = rw (p, q) refl

or_first : (a b : Bool) → a ≡ true → (a || b) ≡ true
or_first a b p = rw p refl

-- nothing lies in the latest run, and nothing in the earlier ones
pub nothing_lies : {Z : Type 0} (packed : Packed) (kind : DeckKind) (spans seen : List Span) (next : OpenParcel) (runs shown : List (Vec Span Z)) (earlier : Bool) →
    block kind (run_of (unit_bits kind) spans next) (reverse (parcels_in_runs (unit_bits kind) runs)) ≡ packed → seen ≡ spans → shown ≡ runs →
    false ≡ list_any has_parcel seen → earlier ≡ list_any lies_in shown → not earlier ≡ true → words_in packed.kind (runs_in packed) ≡ []
nothing_lies packed kind spans seen next runs shown earlier view s r latest told h =
    let late : list_any has_parcel spans ≡ false = sym (latest ∙ ap (list_any has_parcel) s) in
    let early : list_any lies_in runs ≡ false = sym (told ∙ ap (list_any lies_in) r) ∙ not-true earlier h in
    none_there (words_in packed.kind (runs_in packed))
    (block_some packed kind spans next runs view ∙ or_none (list_any has_parcel spans) (list_any lies_in runs) late early)

-- nothing lies in the latest run, and something in an earlier one
pub earlier_lies : {Z : Type 0} (packed : Packed) (kind : DeckKind) (spans seen : List Span) (next : OpenParcel) (runs shown : List (Vec Span Z)) (earlier : Bool) →
    block kind (run_of (unit_bits kind) spans next) (reverse (parcels_in_runs (unit_bits kind) runs)) ≡ packed → seen ≡ spans → shown ≡ runs →
    false ≡ list_any has_parcel seen → earlier ≡ list_any lies_in shown → not earlier ≡ false → words_in packed.kind (runs_in packed) ≢ []
earlier_lies packed kind spans seen next runs shown earlier view s r latest told h =
    let late : list_any has_parcel spans ≡ false = sym (latest ∙ ap (list_any has_parcel) s) in
    let early : list_any lies_in runs ≡ true = sym (told ∙ ap (list_any lies_in) r) ∙ not-false earlier h in
    some_there (words_in packed.kind (runs_in packed))
    (block_some packed kind spans next runs view ∙ or_second (list_any has_parcel spans) (list_any lies_in runs) late early)

-- something lies in the latest run
pub latest_lies : {Z : Type 0} (packed : Packed) (kind : DeckKind) (spans seen : List Span) (next : OpenParcel) (runs : List (Vec Span Z)) →
    block kind (run_of (unit_bits kind) spans next) (reverse (parcels_in_runs (unit_bits kind) runs)) ≡ packed → seen ≡ spans →
    true ≡ list_any has_parcel seen → words_in packed.kind (runs_in packed) ≢ []
latest_lies packed kind spans seen next runs view s latest =
    let late : list_any has_parcel spans ≡ true = sym (latest ∙ ap (list_any has_parcel) s) in
    some_there (words_in packed.kind (runs_in packed))
    (block_some packed kind spans next runs view ∙ or_first (list_any has_parcel spans) (list_any lies_in runs) late)
