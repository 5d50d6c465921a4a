-- Merging two lists of spans, and the words of several runs.
use Rattle.std.{proofs.Common.{◌≡◌, ℕ, suc, ◌+◌, ◌-◌, ◌^◌, ◌<◌, ◌≤◌, nat_lt, max, min, List, [], ◌∷◌, ◌++◌, None, refl, sym, ap, subst, take, drop, ◌∙◌, arith, ◌⊎◌, inl, inr, append-nil, append_assoc}, proofs.lemmas.Bool.Decides.leb_tells, specs.Prelude.{Vec, Result, Ok, Err, IfOk, if◌then◌else◌}, proofs.lemmas.List.take-append-drop, specs.Option.option_or}
use Rattle.definitions.{specs.Words.Parcel, specs.declared.deck_kind.DeckKind.DeckKind, proofs.TestLaws.{option_or-assoc, option_or-none}}
use Rattle.parcel_packer.proofs.RiseLaws.{none-option_or}
use Rattle.parcel_packer.{specs.Joins.Spans.{DoRunsRise, parcels_in, parcels_in_runs}, specs.Joins.Filling.{DoSpansRise, IsBetween, IsFilled, IsMerging, IsTaking, found, part_of, value_in, latest_value}, specs.declared.spans.Span.Span, specs.declared.word_spans.WordSpan.WordSpan, proofs.RiseLaws.{spans-lower, spans-append, spans-push, found-append, found-above, found-under, found-here, found-before, found-past, within_tells, order_of}}

-- a span from one offset up to another has what is asked for
part_some : (begin end value : ℕ) → begin < end → (if nat_lt begin end then (let s : WordSpan = record { offset = begin; count = end - begin; value = value } in s) ∷ [] else []) ≡ (let s : WordSpan = record { offset = begin; count = end - begin; value = value } in s) ∷ []
part_some begin end value h = elim (leb_tells (suc begin) end) [
  | inl e ↦ rw e.0 refl
  | inr e ↦ let k = e.1 in absurd (omega arith)
]

part_none : (begin end value : ℕ) → end ≤ begin → (if nat_lt begin end then (let s : WordSpan = record { offset = begin; count = end - begin; value = value } in s) ∷ [] else []) ≡ []
part_none begin end value h = elim (leb_tells (suc begin) end) [
  | inl e ↦ let k = e.1 in absurd (omega arith)
  | inr e ↦ rw e.0 refl
]

-- within the two offsets a part has what its span has
part-found : (span : WordSpan) (from to offset : ℕ) → from ≤ offset → offset < to → found offset (part_of span from to) ≡ found offset (span ∷ [])
part-found span from to offset a b = elim (order_of (max span.offset from) (min (span.offset + span.count) to)) [
  | inl some ↦ rw (part_some (max span.offset from) (min (span.offset + span.count) to) span.value some) (elim (within_tells offset span) [
    | inl h ↦
        let low = h.1 in
        let high = h.2 in
        found-here offset (record { offset = max span.offset from; count = min (span.offset + span.count) to - max span.offset from; value = span.value }) [] (omega arith) (omega arith)
        ∙ sym (found-here offset span [] low high)
    | inr h ↦ elim h.1 [
      | inl below ↦
          found-before offset (record { offset = max span.offset from; count = min (span.offset + span.count) to - max span.offset from; value = span.value }) [] (omega arith)
          ∙ sym (found-before offset span [] below)
      | inr behind ↦
          found-past offset (record { offset = max span.offset from; count = min (span.offset + span.count) to - max span.offset from; value = span.value }) [] (omega arith)
          ∙ sym (found-past offset span [] behind)
    ]
  ])
  | inr none ↦ rw (part_none (max span.offset from) (min (span.offset + span.count) to) span.value none) (elim (within_tells offset span) [
    | inl h ↦ let low = h.1 in let high = h.2 in absurd (omega arith)
    | inr h ↦ rw h.0 refl
  ])
]

-- behind spans that rise to where its span begins, a part rises to where that ends
part_rise : (span : WordSpan) (from to : ℕ) (more : List WordSpan) (high : ℕ) → ((n : ℕ) → from ≤ n → span.offset ≤ n → DoSpansRise from more n) →
    from ≤ high → (span.offset + span.count ≤ high) ⊎ ((to ≤ high) × (span.offset ≤ high)) → DoSpansRise from (more ++ part_of span from to) high
part_rise span from to more high rise a ends = elim (order_of (max span.offset from) (min (span.offset + span.count) to)) [
  | inl some ↦ rw (part_some (max span.offset from) (min (span.offset + span.count) to) span.value some)
      (spans-push from more (record { offset = max span.offset from; count = min (span.offset + span.count) to - max span.offset from; value = span.value }) high
      (rise (max span.offset from) (omega arith) (omega arith)) (omega arith) (by_end ends some))
  | inr none ↦ rw (part_none (max span.offset from) (min (span.offset + span.count) to) span.value none, append-nil) (rise high a (begins ends))
]
  where
    by_end : (span.offset + span.count ≤ high) ⊎ ((to ≤ high) × (span.offset ≤ high)) → max span.offset from < min (span.offset + span.count) to →
        max span.offset from + (min (span.offset + span.count) to - max span.offset from) ≤ high
    by_end (inl h) k = omega arith
    by_end (inr h) k = let top = h.0 in omega arith

    begins : (span.offset + span.count ≤ high) ⊎ ((to ≤ high) × (span.offset ≤ high)) → span.offset ≤ high
    begins (inl h) = omega arith
    begins (inr h) = h.1

-- before anything is taken
pub taking_none : (older : List WordSpan) (from to : ℕ) (old : List WordSpan) → DoSpansRise 0 older (2 ^ 20) → IsTaking older from to old old older
taking_none older from to old rise = record {
  more = [];
  are_more = sym (append-nil old);
  low = 0;
  within = omega arith;
  rise = λ high a b. a;
  left_rise = rise;
  has = λ offset a b. refl;
  left_has = λ offset a. refl;
}

taken_has : (older : List WordSpan) (from to : ℕ) (more : List WordSpan) (span : WordSpan) (rest : List WordSpan) (offset : ℕ) → from ≤ offset → offset < to →
    option_or (found offset more) (found offset (span ∷ rest)) ≡ found offset older → option_or (found offset (more ++ part_of span from to)) (found offset rest) ≡ found offset older
taken_has older from to more span rest offset a b h =
    ap (λ v. option_or v (found offset rest)) (found-append offset more (part_of span from to))
    ∙ option_or-assoc (found offset more) (found offset (part_of span from to)) (found offset rest)
    ∙ ap (λ v. option_or (found offset more) v) (ap (λ v. option_or v (found offset rest)) (part-found span from to offset a b) ∙ sym (found-append offset (span ∷ []) rest))
    ∙ h

-- one span more is taken, which ends before the words that are asked for
pub taking_more : (older : List WordSpan) (from to : ℕ) (old taken new left : List WordSpan) (span : WordSpan) (rest : List WordSpan) → from ≤ to → left ≡ span ∷ rest → new ≡ taken ++ part_of span from to →
    span.offset + span.count ≤ to → IsTaking older from to old taken left → IsTaking older from to old new rest
taking_more older from to old taken new left span rest order e pushed ends h =
    let left_rise : DoSpansRise h.low (span ∷ rest) (2 ^ 20) = subst (λ (l : List WordSpan). DoSpansRise h.low l (2 ^ 20)) e h.left_rise in
    let first = left_rise.0 in
    record {
      more = h.more ++ part_of span from to;
      are_more = pushed ∙ ap (λ l. l ++ part_of span from to) h.are_more ∙ append_assoc old h.more (part_of span from to);
      low = span.offset + span.count;
      within = ends;
      rise = λ high a b. part_rise span from to h.more high (λ n c d. h.rise n c (omega arith)) a (inl b);
      left_rise = left_rise.2;
      has = λ offset a b. taken_has older from to h.more span rest offset a b (ap (λ l. option_or (found offset h.more) (found offset l)) (sym e) ∙ h.has offset a b);
      left_has = λ offset a. h.left_has offset a ∙ ap (found offset) e ∙ found-past offset span rest (omega arith);
    }

-- the last span is taken, which reaches further
pub taking_last : (older : List WordSpan) (from to : ℕ) (old taken new left : List WordSpan) (span : WordSpan) (rest : List WordSpan) → from ≤ to → left ≡ span ∷ rest → new ≡ taken ++ part_of span from to →
    span.offset < to → to < span.offset + span.count → IsTaking older from to old taken left → IsBetween older from to old new left
taking_last older from to old taken new left span rest order e pushed begins ends h =
    let left_rise : DoSpansRise h.low (span ∷ rest) (2 ^ 20) = subst (λ (l : List WordSpan). DoSpansRise h.low l (2 ^ 20)) e h.left_rise in
    let first = left_rise.0 in
    record {
      more = h.more ++ part_of span from to;
      are_more = pushed ∙ ap (λ l. l ++ part_of span from to) h.are_more ∙ append_assoc old h.more (part_of span from to);
      rise = part_rise span from to h.more to (λ n c d. h.rise n c (omega arith)) order (inr (omega arith, omega arith));
      has = λ offset a b.
          sym (option_or-none (found offset (h.more ++ part_of span from to)) (found offset rest) (found-under offset (span.offset + span.count) rest (2 ^ 20) left_rise.2 (omega arith)))
          ∙ taken_has older from to h.more span rest offset a b (ap (λ l. option_or (found offset h.more) (found offset l)) (sym e) ∙ h.has offset a b);
      left_rise = spans-lower 0 h.low left (2 ^ 20) h.left_rise (omega arith);
      left_has = h.left_has;
    }

-- no span is left that has a word of those that are asked for
taking_all : (older : List WordSpan) (from to : ℕ) (old taken left : List WordSpan) → from ≤ to → ((offset : ℕ) → offset < to → found offset left ≡ None) → IsTaking older from to old taken left →
    IsBetween older from to old taken left
taking_all older from to old taken left order none h = record {
  more = h.more;
  are_more = h.are_more;
  rise = h.rise to order h.within;
  has = λ offset a b. sym (option_or-none (found offset h.more) (found offset left) (none offset b)) ∙ h.has offset a b;
  left_rise = spans-lower 0 h.low left (2 ^ 20) h.left_rise (omega arith);
  left_has = h.left_has;
}

pub taking_beyond : (older : List WordSpan) (from to : ℕ) (old taken left : List WordSpan) (span : WordSpan) (rest : List WordSpan) → from ≤ to → left ≡ span ∷ rest → to ≤ span.offset →
    IsTaking older from to old taken left → IsBetween older from to old taken left
taking_beyond older from to old taken left span rest order e beyond h =
    let left_rise : DoSpansRise h.low (span ∷ rest) (2 ^ 20) = subst (λ (l : List WordSpan). DoSpansRise h.low l (2 ^ 20)) e h.left_rise in
    let from_span : DoSpansRise to (span ∷ rest) (2 ^ 20) = (beyond, left_rise.1, left_rise.2) in
    taking_all older from to old taken left order (λ offset b. ap (found offset) e ∙ found-under offset to (span ∷ rest) (2 ^ 20) from_span b) h

-- what stands below an offset stays, with spans behind it
still : (offset from to : ℕ) (taken more : List WordSpan) → offset < from → DoSpansRise from more to → found offset (taken ++ more) ≡ found offset taken
still offset from to taken more below rise = found-append offset taken more ∙ option_or-none (found offset taken) (found offset more) (found-under offset from more to rise below)

-- between two of the newer spans the older ones have what both have
between_has : (newer older taken newer_left older_left more : List WordSpan) (from to offset : ℕ) → IsMerging newer older taken newer_left older_left from → DoSpansRise to newer_left (2 ^ 20) →
    from ≤ offset → offset < to → found offset more ≡ found offset older_left → found offset (taken ++ more) ≡ option_or (found offset newer) (found offset older)
between_has newer older taken newer_left older_left more from to offset h rise a b has =
    found-append offset taken more
    ∙ none-option_or (found offset taken) (found offset more) (found-above offset 0 taken from h.rise a)
    ∙ has ∙ sym (h.older_has offset a)
    ∙ sym (none-option_or (found offset newer) (found offset older) (h.newer_has offset a ∙ found-under offset to newer_left (2 ^ 20) rise b))

up_to : (newer older taken newer_left older_left middle left : List WordSpan) (from to offset : ℕ) → IsMerging newer older taken newer_left older_left from → DoSpansRise to newer_left (2 ^ 20) →
    IsBetween older_left from to taken middle left → offset < to → found offset middle ≡ option_or (found offset newer) (found offset older)
up_to newer older taken newer_left older_left middle left from to offset h rise between below =
    ap (found offset) between.are_more ∙ elim (order_of offset from) [
      | inl before ↦ still offset from to taken between.more before between.rise ∙ h.has offset before
      | inr behind ↦ between_has newer older taken newer_left older_left between.more from to offset h rise behind below (between.has offset behind below)
    ]

middle_rise : (newer older taken newer_left older_left middle left : List WordSpan) (from to : ℕ) → IsMerging newer older taken newer_left older_left from → IsBetween older_left from to taken middle left → DoSpansRise 0 middle to
middle_rise newer older taken newer_left older_left middle left from to h between = rw between.are_more (spans-append 0 taken between.more from to h.rise between.rise)

-- the older words before the next of the newer spans, and that span
pub merging_more : (newer older taken newer_left older_left middle new left : List WordSpan) (span : WordSpan) (rest : List WordSpan) (from : ℕ) → newer_left ≡ span ∷ rest → new ≡ middle ++ span ∷ [] →
    IsMerging newer older taken newer_left older_left from → IsBetween older_left from span.offset taken middle left → IsMerging newer older new rest left (span.offset + span.count)
merging_more newer older taken newer_left older_left middle new left span rest from e pushed h between =
    let newer_rise : DoSpansRise from (span ∷ rest) (2 ^ 20) = subst (λ (l : List WordSpan). DoSpansRise from l (2 ^ 20)) e h.newer_rise in
    let begins = newer_rise.0 in
    let low = middle_rise newer older taken newer_left older_left middle left from span.offset h between in
    let from_span : DoSpansRise span.offset (span ∷ rest) (2 ^ 20) = (omega arith, newer_rise.1, newer_rise.2) in
    record {
      rise = rw pushed (spans-push 0 middle span (span.offset + span.count) low newer_rise.1 (omega arith));
      newer_rise = newer_rise.2;
      older_rise = between.left_rise;
      has = λ offset below. ap (found offset) pushed ∙ found-append offset middle (span ∷ []) ∙ elim (order_of offset span.offset) [
        | inl before ↦
            option_or-none (found offset middle) (found offset (span ∷ [])) (found-before offset span [] before)
            ∙ up_to newer older taken newer_left older_left middle left from span.offset offset h (rw e from_span) between before
        | inr behind ↦
            none-option_or (found offset middle) (found offset (span ∷ [])) (found-above offset 0 middle span.offset low behind)
            ∙ found-here offset span [] behind below
            ∙ sym (ap (λ v. option_or v (found offset older)) (h.newer_has offset (omega arith) ∙ ap (found offset) e ∙ found-here offset span rest behind below))
      ];
      newer_has = λ offset a. h.newer_has offset (omega arith) ∙ ap (found offset) e ∙ found-past offset span rest a;
      older_has = λ offset a. h.older_has offset (omega arith) ∙ between.left_has offset (omega arith);
    }

-- the older words behind all of the newer ones
pub merging_all : (newer older taken older_left middle left : List WordSpan) (from : ℕ) → DoSpansRise 0 newer (2 ^ 20) → DoSpansRise 0 older (2 ^ 20) →
    IsMerging newer older taken [] older_left from → IsBetween older_left from (2 ^ 20) taken middle left → IsFilled (λ offset. option_or (found offset newer) (found offset older)) middle
merging_all newer older taken older_left middle left from h k merging between =
    let low = middle_rise newer older taken [] older_left middle left from (2 ^ 20) merging between in
    record {
      rise = low;
      has = λ offset. elim (order_of offset (2 ^ 20)) [
        | inl below ↦ up_to newer older taken [] older_left middle left from (2 ^ 20) offset merging (omega arith) between below
        | inr above ↦
            found-above offset 0 middle (2 ^ 20) low above
            ∙ sym (none-option_or (found offset newer) (found offset older) (found-above offset 0 newer (2 ^ 20) h above) ∙ found-above offset 0 older (2 ^ 20) k above)
      ];
    }

-- the latest of runs and later runs
latest-append : (kind : DeckKind) (early late : List (List Parcel)) (word : ℕ) → latest_value kind (early ++ late) word ≡ option_or (latest_value kind late word) (latest_value kind early word)
latest-append kind [] late word = sym (option_or-none (latest_value kind late word) None refl)
latest-append kind (run ∷ early) late word =
    ap (λ a. option_or a (value_in kind run word)) (latest-append kind early late word) ∙ option_or-assoc (latest_value kind late word) (latest_value kind early word) (value_in kind run word)

-- two fillings merged are the filling of all runs
pub filled_both : (kind : DeckKind) (early late : List (List Parcel)) (older newer words : List WordSpan) → IsFilled (latest_value kind early) older → IsFilled (latest_value kind late) newer →
    IsFilled (λ offset. option_or (found offset newer) (found offset older)) words → IsFilled (latest_value kind (early ++ late)) words
filled_both kind early late older newer words h k both = record {
  rise = both.rise;
  has = λ offset. both.has offset ∙ pair offset ∙ sym (latest-append kind early late offset);
}
  where
    pair : (offset : ℕ) → option_or (found offset newer) (found offset older) ≡ option_or (latest_value kind late offset) (latest_value kind early offset)
    pair offset = rw (h.has offset, k.has offset) refl

pub runs_rise-append : (early late : List (List Parcel)) → DoRunsRise (early ++ late) → DoRunsRise early × DoRunsRise late
runs_rise-append [] late h = (tt, h)
runs_rise-append (run ∷ early) late h = let rest = runs_rise-append early late h.1 in ((h.0, rest.0), rest.1)

pub parcels_in_runs-append : {Z : Type 0} (size : ℕ) (early late : List (Vec Span Z)) → parcels_in_runs size (early ++ late) ≡ parcels_in_runs size early ++ parcels_in_runs size late
parcels_in_runs-append size [] late = refl
parcels_in_runs-append size (run ∷ early) late = ap (λ rs. parcels_in size run.items ∷ rs) (parcels_in_runs-append size early late)

-- the halves of runs
halves : {Z : Type 0} (size : ℕ) (runs early late : List (Vec Span Z)) (middle : ℕ) → early ≡ take middle runs → late ≡ drop middle runs →
    parcels_in_runs size early ++ parcels_in_runs size late ≡ parcels_in_runs size runs
halves size runs early late middle e k = rw (e, k) (sym (parcels_in_runs-append size (take middle runs) (drop middle runs)) ∙ ap (parcels_in_runs size) (take-append-drop middle runs))

pub halves_rise : {Z : Type 0} (size : ℕ) (runs early late : List (Vec Span Z)) (middle : ℕ) → early ≡ take middle runs → late ≡ drop middle runs → DoRunsRise (parcels_in_runs size runs) →
    DoRunsRise (parcels_in_runs size early) × DoRunsRise (parcels_in_runs size late)
halves_rise size runs early late middle e k h = runs_rise-append (parcels_in_runs size early) (parcels_in_runs size late) (rw (halves size runs early late middle e k) h)

pub halves_filled : {Z : Type 0} (kind : DeckKind) (size : ℕ) (runs early late : List (Vec Span Z)) (middle : ℕ) → early ≡ take middle runs → late ≡ drop middle runs → (older newer words : List WordSpan) →
    IsFilled (latest_value kind (parcels_in_runs size early)) older → IsFilled (latest_value kind (parcels_in_runs size late)) newer →
    IsFilled (λ offset. option_or (found offset newer) (found offset older)) words → IsFilled (latest_value kind (parcels_in_runs size runs)) words
halves_filled kind size runs early late middle e k older newer words h g both =
    let Holds : List (List Parcel) → Type 0 = λ rs. IsFilled (latest_value kind rs) words in
    subst Holds (halves size runs early late middle e k) (filled_both kind (parcels_in_runs size early) (parcels_in_runs size late) older newer words h g both)

-- what holds of a result holds with a weaker fact too
pub if_ok : {T E : Type 0} (r : Result T E) (P Q : T → Type 0) → ((x : T) → P x → Q x) → IfOk r P → IfOk r Q
if_ok (Ok x) P Q f h = f x h
if_ok (Err e) P Q f h = tt
