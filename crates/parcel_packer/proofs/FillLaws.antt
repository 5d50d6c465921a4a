-- Spans that have each word of the runs, by increasing offset, are what the definitions store.
use Rattle.std.{proofs.Common.{◌≡◌, ◌≢◌, ℕ, zero, suc, ◌+◌, ◌/◌, ◌^◌, ◌<◌, ◌≤◌, Bool, true, false, not, ◌||◌, nat_eq, nat_lt, List, [], ◌∷◌, ◌++◌, Option, Some, None, reverse, refl, sym, ap, subst, ◌∙◌, arith, ◌⊎◌, inl, inr}, specs.Prelude.if◌then◌else◌, proofs.lemmas.Bool.cases_order, proofs.lemmas.Bool.Decides.{eqb_tells, leb_tells}, proofs.lemmas.List.reverse-append, specs.Option.option_or}
use Rattle.definitions.{specs.Kinds.units, specs.Image.stored_at, specs.Words.{Parcel, StoredWord, in_word, latest_in_word, word_of_parcels, with_number, words_in, stored}, proofs.WordLaws.{with_words_of, words_in-run}, specs.declared.deck_kind.DeckKind.DeckKind, proofs.TestLaws.{option_or-assoc, option_or-none}}
use Rattle.parcel_packer.{specs.Joins.Spans.RiseWithin, specs.Joins.Filling.{DoSpansRise, IsFilled, as_stored, found, is_none_there, is_within, latest_value, value_in, value_of_parcels, words_from}, specs.declared.word_spans.WordSpan.WordSpan, proofs.RiseLaws.{rise-wider, rise-lower, found-here, within_tells}}

-- what the latest of these runs has in a word; the latest run is the first
abbrev value_at : DeckKind → List (List Parcel) → ℕ → Option ℕ
value_at kind [] word = None
value_at kind (run ∷ runs) word = option_or (value_in kind run word) (value_at kind runs word)

first_held : (kind : DeckKind) (held rest : List Parcel) →
    value_of_parcels kind (elim held [ [] ↦ rest | parcel ∷ others ↦ parcel ∷ others ]) ≡ option_or (value_of_parcels kind held) (value_of_parcels kind rest)
first_held kind [] rest = refl
first_held kind (parcel ∷ others) rest = refl

latest-value : (kind : DeckKind) (runs : List (List Parcel)) (word : ℕ) → value_of_parcels kind (latest_in_word kind word runs) ≡ value_at kind runs word
latest-value kind [] word = refl
latest-value kind (run ∷ runs) word =
    first_held kind (in_word kind word run) (latest_in_word kind word runs) ∙ ap (λ v. option_or (value_in kind run word) v) (latest-value kind runs word)

value_at-push : (kind : DeckKind) (runs : List (List Parcel)) (run : List Parcel) (word : ℕ) → value_at kind (runs ++ run ∷ []) word ≡ option_or (value_at kind runs word) (value_in kind run word)
value_at-push kind [] run word = option_or-none (value_in kind run word) None refl
value_at-push kind (first ∷ runs) run word =
    ap (λ v. option_or (value_in kind first word) v) (value_at-push kind runs run word) ∙ sym (option_or-assoc (value_in kind first word) (value_at kind runs word) (value_in kind run word))

value_at-reverse : (kind : DeckKind) (runs : List (List Parcel)) (word : ℕ) → value_at kind (reverse runs) word ≡ latest_value kind runs word
value_at-reverse kind [] word = refl
value_at-reverse kind (run ∷ runs) word =
    ap (λ rs. value_at kind rs word) (reverse-append (run ∷ []) runs) ∙ value_at-push kind (reverse runs) run word ∙ ap (λ v. option_or v (value_in kind run word)) (value_at-reverse kind runs word)

ltb_tells : (a b : ℕ) → ((nat_lt a b ≡ true) × (a < b)) ⊎ ((nat_lt a b ≡ false) × (b ≤ a))
ltb_tells a b = elim (leb_tells (suc a) b) [
  | inl h ↦ let k = h.1 in inl (h.0, omega arith)
  | inr h ↦ let k = h.1 in inr (h.0, omega arith)
]

-- whether a number is among others
abbrev pub among : ℕ → List ℕ → Bool
among n [] = false
among n (m ∷ ms) = nat_eq m n || among n ms

or_twice : (a b : Bool) → (a || b) ≡ (a || (a || b))
or_twice true b = refl
or_twice false b = refl

or_swap : (a b c : Bool) → (a || (b || c)) ≡ (b || (a || c))
or_swap true true c = refl
or_swap true false c = refl
or_swap false true c = refl
or_swap false false c = refl

or-assoc : (a b c : Bool) → ((a || b) || c) ≡ (a || (b || c))
or-assoc true b c = refl
or-assoc false b c = refl

pub among-with_number : (word n : ℕ) (ns : List ℕ) → among word (with_number n ns) ≡ (nat_eq n word || among word ns)
among-with_number word n [] = refl
among-with_number word n (m ∷ ms) = elim (eqb_tells n m) [
  | inl e ↦ rw e.0 (rw e.1 (or_twice (nat_eq m word) (among word ms)))
  | inr e ↦ rw e.0 (elim (ltb_tells n m) [
    | inl l ↦ rw l.0 refl
    | inr l ↦ rw l.0 (ap (λ b. nat_eq m word || b) (among-with_number word n ms) ∙ or_swap (nat_eq m word) (nat_eq n word) (among word ms))
  ])
]

some_held : (test : Bool) (parcel : Parcel) (held : List Parcel) → not (is_none_there (if test then parcel ∷ held else held)) ≡ (test || not (is_none_there held))
some_held true parcel held = refl
some_held false parcel held = refl

among-run : (kind : DeckKind) (word : ℕ) (run : List Parcel) (words : List ℕ) → among word (with_words_of kind run words) ≡ (not (is_none_there (in_word kind word run)) || among word words)
among-run kind word [] words = refl
among-run kind word (parcel ∷ run) words =
    among-with_number word (parcel.place / units kind) (with_words_of kind run words)
    ∙ ap (λ b. nat_eq (parcel.place / units kind) word || b) (among-run kind word run words)
    ∙ sym (or-assoc (nat_eq (parcel.place / units kind) word) (not (is_none_there (in_word kind word run))) (among word words))
    ∙ ap (λ b. b || among word words) (sym (some_held (nat_eq (parcel.place / units kind) word) parcel (in_word kind word run)))

-- whether there is a value
abbrev pub is_there : Option ℕ → Bool
is_there None = false
is_there (Some n) = true

pub is_there-or : (a b : Option ℕ) → is_there (option_or a b) ≡ (is_there a || is_there b)
is_there-or None b = refl
is_there-or (Some n) b = refl

is_there-held : (kind : DeckKind) (held : List Parcel) → is_there (value_of_parcels kind held) ≡ not (is_none_there held)
is_there-held kind [] = refl
is_there-held kind (parcel ∷ held) = refl

among-words : (kind : DeckKind) (word : ℕ) (runs : List (List Parcel)) → among word (words_in kind runs) ≡ is_there (value_at kind runs word)
among-words kind word [] = refl
among-words kind word (run ∷ runs) =
    ap (among word) (words_in-run kind run runs)
    ∙ among-run kind word run (words_in kind runs)
    ∙ ap (λ b. not (is_none_there (in_word kind word run)) || b) (among-words kind word runs)
    ∙ ap (λ b. b || is_there (value_at kind runs word)) (sym (is_there-held kind (in_word kind word run)))
    ∙ sym (is_there-or (value_in kind run word) (value_at kind runs word))

-- a number put among rising ones leaves them rising
pub with_number-rise : (n low : ℕ) (ns : List ℕ) (high : ℕ) → RiseWithin low ns high → low ≤ n → n < high → RiseWithin low (with_number n ns) high
with_number-rise n low [] high h from to = (from, omega arith)
with_number-rise n low (m ∷ ms) high h from to = elim (eqb_tells n m) [
  | inl e ↦ rw e.0 h
  | inr e ↦ rw e.0 (elim (ltb_tells n m) [
    | inl l ↦ rw l.0 (let before : n < m = l.1 in (from, (omega arith, h.1)))
    | inr l ↦ rw l.0 (let other = e.1 in let past : m + 1 ≤ n = later n m other l.1 in (h.0, with_number-rise n (m + 1) ms high h.1 past to))
  ])
]
  where
    later : (a b : ℕ) → (a ≡ b → ⊥) → b ≤ a → b + 1 ≤ a
    later a b other above = elim (cases_order a b) [ inl e ↦ absurd (other e) | inr r ↦ omega arith ]

run-rise : (kind : DeckKind) (run : List Parcel) (ns : List ℕ) (high : ℕ) → RiseWithin 0 ns high → (top : ℕ) × RiseWithin 0 (with_words_of kind run ns) top
run-rise kind [] ns high h = (high, h)
run-rise kind (parcel ∷ run) ns high h =
    let rest = run-rise kind run ns high h in
    let word = parcel.place / units kind in
    (rest.0 + word + 1, with_number-rise word 0 (with_words_of kind run ns) (rest.0 + word + 1) (rise-wider 0 (with_words_of kind run ns) rest.0 (rest.0 + word + 1) rest.1 (omega arith)) (omega arith) (omega arith))

words-rise : (kind : DeckKind) (runs : List (List Parcel)) → (top : ℕ) × RiseWithin 0 (words_in kind runs) top
words-rise kind [] = (0, omega arith)
words-rise kind (run ∷ runs) =
    let rest = words-rise kind runs in
    subst (λ words. (top : ℕ) × RiseWithin 0 words top) (sym (words_in-run kind run runs)) (run-rise kind run (words_in kind runs) rest.0 rest.1)

-- the offsets of words
abbrev pub stored_offsets : List StoredWord → List ℕ
stored_offsets [] = []
stored_offsets (word ∷ words) = word.offset ∷ stored_offsets words

pub stored_at-other : (offset : ℕ) (x : StoredWord) (xs : List StoredWord) → x.offset ≢ offset → stored_at offset (x ∷ xs) ≡ stored_at offset xs
stored_at-other offset x xs other = elim (eqb_tells x.offset offset) [ inl h ↦ absurd (other h.1) | inr h ↦ rw h.0 refl ]

pub stored_at-here : (offset : ℕ) (x : StoredWord) (xs : List StoredWord) → x.offset ≡ offset → stored_at offset (x ∷ xs) ≡ Some x.value
stored_at-here offset x xs same = elim (eqb_tells x.offset offset) [ inl h ↦ rw h.0 refl | inr h ↦ absurd (h.1 same) ]

pub stored_at-under : (offset low : ℕ) (xs : List StoredWord) (high : ℕ) → RiseWithin low (stored_offsets xs) high → offset < low → stored_at offset xs ≡ None
stored_at-under offset low [] high h k = refl
stored_at-under offset low (x ∷ xs) high h k =
    let first = h.0 in
    let other : x.offset ≢ offset = λ e. absurd (omega arith) in
    stored_at-other offset x xs other ∙ stored_at-under offset (x.offset + 1) xs high h.1 (omega arith)

words_from-past : (offset from count value : ℕ) (words : List StoredWord) → (offset < from) ⊎ (from + count ≤ offset) → stored_at offset (words_from from count value ++ words) ≡ stored_at offset words
words_from-past offset from zero value words out = refl
words_from-past offset from (suc count) value words out =
    stored_at-other offset (record { offset = from; value = value }) (words_from (from + 1) count value ++ words) (apart out) ∙ words_from-past offset (from + 1) count value words (on out)
  where
    apart : (offset < from) ⊎ (from + suc count ≤ offset) → from ≢ offset
    apart (inl h) = λ e. absurd (omega arith)
    apart (inr h) = λ e. absurd (omega arith)

    on : (offset < from) ⊎ (from + suc count ≤ offset) → (offset < from + 1) ⊎ (from + 1 + count ≤ offset)
    on (inl h) = inl (omega arith)
    on (inr h) = inr (omega arith)

words_from-here : (offset from count value : ℕ) (words : List StoredWord) → from ≤ offset → offset < from + count → stored_at offset (words_from from count value ++ words) ≡ Some value
words_from-here offset from zero value words a b = absurd (omega arith)
words_from-here offset from (suc count) value words a b = elim (cases_order from offset) [
  | inl here ↦ stored_at-here offset (record { offset = from; value = value }) (words_from (from + 1) count value ++ words) here
  | inr other ↦ elim other [
    | inl before ↦
        stored_at-other offset (record { offset = from; value = value }) (words_from (from + 1) count value ++ words) (λ e. absurd (omega arith))
        ∙ words_from-here offset (from + 1) count value words (omega arith) (omega arith)
    | inr behind ↦ absurd (omega arith)
  ]
]

-- the words of spans are found where the spans have them
pub spans-found : (offset : ℕ) (spans : List WordSpan) → stored_at offset (as_stored spans) ≡ found offset spans
spans-found offset [] = refl
spans-found offset (span ∷ spans) = elim (within_tells offset span) [
  | inl h ↦ words_from-here offset span.offset span.count span.value (as_stored spans) h.1 h.2 ∙ sym (found-here offset span spans h.1 h.2)
  | inr h ↦ words_from-past offset span.offset span.count span.value (as_stored spans) h.1 ∙ spans-found offset spans ∙ sym (not_within h.0)
]
  where
    not_within : is_within offset span ≡ false → found offset (span ∷ spans) ≡ found offset spans
    not_within e = rw e refl

-- and they rise as the spans do
from-rise : (low from count value : ℕ) (words : List StoredWord) (high : ℕ) → low ≤ from → RiseWithin (from + count) (stored_offsets words) high → RiseWithin low (stored_offsets (words_from from count value ++ words)) high
from-rise low from zero value words high h k = rise-lower low (from + 0) (stored_offsets words) high k (omega arith)
from-rise low from (suc count) value words high h k = (h, from-rise (from + 1) (from + 1) count value words high (omega arith) (rise-lower (from + 1 + count) (from + suc count) (stored_offsets words) high k (omega arith)))

pub spans-rise : (low : ℕ) (spans : List WordSpan) (high : ℕ) → DoSpansRise low spans high → RiseWithin low (stored_offsets (as_stored spans)) high
spans-rise low [] high h = h
spans-rise low (span ∷ spans) high h = from-rise low span.offset span.count span.value (as_stored spans) high h.0 (spans-rise (span.offset + span.count) spans high h.2)

stored-offsets : (kind : DeckKind) (runs : List (List Parcel)) (words : List ℕ) → stored_offsets (stored kind runs words) ≡ words
stored-offsets kind runs [] = refl
stored-offsets kind runs (word ∷ words) = ap (λ ws. word ∷ ws) (stored-offsets kind runs words)

stored-found : (kind : DeckKind) (runs : List (List Parcel)) (words : List ℕ) (word : ℕ) →
    stored_at word (stored kind runs words) ≡ (if among word words then Some (word_of_parcels kind (latest_in_word kind word runs)) else None)
stored-found kind runs [] word = refl
stored-found kind runs (first ∷ words) word = elim (eqb_tells first word) [
  | inl e ↦ rw e.0 (rw e.1 refl)
  | inr e ↦ rw e.0 (stored-found kind runs words word)
]

chosen : (kind : DeckKind) (held : List Parcel) (test : Bool) → test ≡ is_there (value_of_parcels kind held) →
    (if test then Some (word_of_parcels kind held) else None) ≡ value_of_parcels kind held
chosen kind [] test e = rw e refl
chosen kind (parcel ∷ held) test e = rw e refl

stored-has : (kind : DeckKind) (runs : List (List Parcel)) (word : ℕ) → stored_at word (stored kind runs (words_in kind runs)) ≡ value_at kind runs word
stored-has kind runs word =
    stored-found kind runs (words_in kind runs) word
    ∙ chosen kind (latest_in_word kind word runs) (among word (words_in kind runs)) (among-words kind word runs ∙ ap is_there (sym (latest-value kind runs word)))
    ∙ latest-value kind runs word

-- the words that are stored rise
pub stored-rise : (kind : DeckKind) (runs : List (List Parcel)) → (top : ℕ) × RiseWithin 0 (stored_offsets (stored kind runs (words_in kind runs))) top
stored-rise kind runs = let rises = words-rise kind runs in (rises.0, rw (stored-offsets kind runs (words_in kind runs)) rises.1)

same_word : (x y : StoredWord) → x.offset ≡ y.offset → Some x.value ≡ Some y.value → x ≡ y
same_word x y e h = let v : x.value ≡ y.value = cc in pair x.offset y.offset x.value y.value e v
  where
    pair : (a b c d : ℕ) → a ≡ b → c ≡ d → (let w : StoredWord = record { offset = a; value = c } in w) ≡ record { offset = b; value = d }
    pair a b c d e k = rw (e, k) refl

no_value : (n : ℕ) (a : Option ℕ) → Some n ≡ a → a ≡ None → ⊥
no_value n a e h = cc

-- rising words that are the same at each offset are the same words
pub unique : (xs ys : List StoredWord) (low high top : ℕ) → RiseWithin low (stored_offsets xs) high → RiseWithin low (stored_offsets ys) top → ((word : ℕ) → stored_at word xs ≡ stored_at word ys) → xs ≡ ys
unique [] [] low high top h k same = refl
unique [] (y ∷ ys) low high top h k same = absurd (no_value y.value None (sym (same y.offset ∙ stored_at-here y.offset y ys refl)) refl)
unique (x ∷ xs) [] low high top h k same = absurd (no_value x.value None (sym (stored_at-here x.offset x xs refl) ∙ same x.offset) refl)
unique (x ∷ xs) (y ∷ ys) low high top h k same = elim (cases_order x.offset y.offset) [
  | inl e ↦
      let first = same_word x y e (sym (stored_at-here x.offset x xs refl) ∙ same x.offset ∙ stored_at-here x.offset y ys (sym e)) in
      let behind = rise-lower (x.offset + 1) (y.offset + 1) (stored_offsets ys) top k.1 (omega arith) in
      join x y xs ys first (unique xs ys (x.offset + 1) high top h.1 behind (tails e behind))
  | inr r ↦ elim r [
    | inl before ↦ absurd (no_value x.value (stored_at x.offset (y ∷ ys)) (sym (stored_at-here x.offset x xs refl) ∙ same x.offset) (stored_at-under x.offset y.offset (y ∷ ys) top (omega arith, k.1) before))
    | inr past ↦ absurd (no_value y.value (stored_at y.offset (x ∷ xs)) (sym (stored_at-here y.offset y ys refl) ∙ sym (same y.offset)) (stored_at-under y.offset x.offset (x ∷ xs) high (omega arith, h.1) past))
  ]
]
  where
    join : (a b : StoredWord) (as' bs : List StoredWord) → a ≡ b → as' ≡ bs → (a ∷ as') ≡ b ∷ bs
    join a b as' bs e t = cc

    tails : x.offset ≡ y.offset → RiseWithin (x.offset + 1) (stored_offsets ys) top → (word : ℕ) → stored_at word xs ≡ stored_at word ys
    tails e behind word = elim (eqb_tells x.offset word) [
      | inl here ↦
          let at = here.1 in
          stored_at-under word (x.offset + 1) xs high h.1 (omega arith) ∙ sym (stored_at-under word (x.offset + 1) ys top behind (omega arith))
      | inr other ↦ sym (stored_at-other word x xs other.1) ∙ same word ∙ stored_at-other word y ys (λ d. other.1 (e ∙ d))
    ]

-- what is filled is what the definitions store
pub filled_stored : (kind : DeckKind) (latest : List Parcel) (earlier : List (List Parcel)) (newer older spans : List WordSpan) →
    IsFilled (value_in kind latest) newer → IsFilled (latest_value kind earlier) older → IsFilled (λ offset. option_or (found offset newer) (found offset older)) spans →
    as_stored spans ≡ stored kind (latest ∷ reverse earlier) (words_in kind (latest ∷ reverse earlier))
filled_stored kind latest earlier newer older spans h k both =
    let runs = latest ∷ reverse earlier in
    let rises = words-rise kind runs in
    let has : (word : ℕ) → stored_at word (as_stored spans) ≡ stored_at word (stored kind runs (words_in kind runs)) =
    λ word. spans-found word spans ∙ both.has word ∙ pair word ∙ ap (λ v. option_or (value_in kind latest word) v) (sym (value_at-reverse kind earlier word)) ∙ sym (stored-has kind runs word) in
    unique (as_stored spans) (stored kind runs (words_in kind runs)) 0 (2 ^ 20) rises.0 (spans-rise 0 spans (2 ^ 20) both.rise) (rw (stored-offsets kind runs (words_in kind runs)) rises.1) has
  where
    pair : (word : ℕ) → option_or (found word newer) (found word older) ≡ option_or (value_in kind latest word) (latest_value kind earlier word)
    pair word = rw (h.has word, k.has word) refl
