-- Numbers and spans that rise, and what spans that rise have at an offset.
use Rattle.std.{proofs.Common.{◌≡◌, ℕ, suc, ◌+◌, ◌/◌, ◌<◌, ◌≤◌, Bool, true, false, List, [], ◌∷◌, ◌++◌, Option, Some, None, length, refl, ap, subst, ◌∙◌, arith, ◌⊎◌, inl, inr}, specs.Prelude.if◌then◌else◌, proofs.lemmas.Bool.Decides.leb_tells, specs.Option.option_or}
use Rattle.definitions.specs.{Kinds.units, Words.{Parcel, parcels_from}, declared.deck_kind.DeckKind.DeckKind, declared.deck_kind.DeckKind.TheVariants.{Rel, Abs, Periph}}
use Rattle.parcel_packer.specs.{Joins.Spans.{RiseWithin, places}, Joins.Filling.{DoSpansRise, found, is_within}, declared.word_spans.WordSpan.WordSpan}

pub rise-wider : (low : ℕ) (ns : List ℕ) (high higher : ℕ) → RiseWithin low ns high → high ≤ higher → RiseWithin low ns higher
rise-wider low [] high higher h k = omega arith
rise-wider low (n ∷ ns) high higher h k = (h.0, rise-wider (n + 1) ns high higher h.1 k)

pub rise-lower : (lower low : ℕ) (ns : List ℕ) (high : ℕ) → RiseWithin low ns high → lower ≤ low → RiseWithin lower ns high
rise-lower lower low [] high h k = omega arith
rise-lower lower low (n ∷ ns) high h k = let first = h.0 in (omega arith, h.1)

pub rise-order : (low : ℕ) (ns : List ℕ) (high : ℕ) → RiseWithin low ns high → low ≤ high
rise-order low [] high h = h
rise-order low (n ∷ ns) high h = let first = h.0 in let rest = rise-order (n + 1) ns high h.1 in omega arith

pub rise-append : (low : ℕ) (ms ns : List ℕ) (middle high : ℕ) → RiseWithin low ms middle → RiseWithin middle ns high → RiseWithin low (ms ++ ns) high
rise-append low [] ns middle high h k = rise-lower low middle ns high k h
rise-append low (m ∷ ms) ns middle high h k = (h.0, rise-append (m + 1) ms ns middle high h.1 k)

-- rising numbers, and one behind them
pub rise-push : (low : ℕ) (ns : List ℕ) (n high : ℕ) → RiseWithin low ns n → n < high → RiseWithin low (ns ++ n ∷ []) high
rise-push low ns n high h k = rise-append low ns (n ∷ []) n high h (omega arith, omega arith)

pub places-append : (xs ys : List Parcel) → places (xs ++ ys) ≡ places xs ++ places ys
places-append [] ys = refl
places-append (x ∷ xs) ys = ap (λ ns. x.place ∷ ns) (places-append xs ys)

pub spans-wider : (low : ℕ) (spans : List WordSpan) (high higher : ℕ) → DoSpansRise low spans high → high ≤ higher → DoSpansRise low spans higher
spans-wider low [] high higher h k = omega arith
spans-wider low (span ∷ spans) high higher h k = (h.0, h.1, spans-wider (span.offset + span.count) spans high higher h.2 k)

pub spans-lower : (lower low : ℕ) (spans : List WordSpan) (high : ℕ) → DoSpansRise low spans high → lower ≤ low → DoSpansRise lower spans high
spans-lower lower low [] high h k = omega arith
spans-lower lower low (span ∷ spans) high h k = let first = h.0 in (omega arith, h.1, h.2)

pub spans-order : (low : ℕ) (spans : List WordSpan) (high : ℕ) → DoSpansRise low spans high → low ≤ high
spans-order low [] high h = h
spans-order low (span ∷ spans) high h = let first = h.0 in let rest = spans-order (span.offset + span.count) spans high h.2 in omega arith

pub spans-append : (low : ℕ) (xs ys : List WordSpan) (middle high : ℕ) → DoSpansRise low xs middle → DoSpansRise middle ys high → DoSpansRise low (xs ++ ys) high
spans-append low [] ys middle high h k = spans-lower low middle ys high k h
spans-append low (x ∷ xs) ys middle high h k = (h.0, h.1, spans-append (x.offset + x.count) xs ys middle high h.2 k)

-- rising spans, and one behind them
pub spans-push : (low : ℕ) (spans : List WordSpan) (span : WordSpan) (high : ℕ) → DoSpansRise low spans span.offset → 0 < span.count → span.offset + span.count ≤ high → DoSpansRise low (spans ++ span ∷ []) high
spans-push low spans span high h some k = spans-append low spans (span ∷ []) span.offset high h (omega arith, some, k)

pub none-option_or : (a b : Option ℕ) → a ≡ None → option_or a b ≡ b
none-option_or a b e = rw e refl

picked-or : (test : Bool) (n : ℕ) (a b : Option ℕ) → (if test then Some n else option_or a b) ≡ option_or (if test then Some n else a) b
picked-or true n a b = refl
picked-or false n a b = refl

pub found-append : (offset : ℕ) (xs ys : List WordSpan) → found offset (xs ++ ys) ≡ option_or (found offset xs) (found offset ys)
found-append offset [] ys = refl
found-append offset (x ∷ xs) ys =
    ap (λ rest. if is_within offset x then Some x.value else rest) (found-append offset xs ys) ∙ picked-or (is_within offset x) x.value (found offset xs) (found offset ys)

pub within_tells : (offset : ℕ) (span : WordSpan) →
    ((is_within offset span ≡ true) × (span.offset ≤ offset) × (offset < span.offset + span.count)) ⊎ ((is_within offset span ≡ false) × ((offset < span.offset) ⊎ (span.offset + span.count ≤ offset)))
within_tells offset span = elim (leb_tells span.offset offset) [
  | inl from ↦ let a = from.1 in elim (leb_tells (suc offset) (span.offset + span.count)) [
    | inl to ↦ let b = to.1 in inl (rw (from.0, to.0) refl, a, omega arith)
    | inr to ↦ let b = to.1 in inr (rw (from.0, to.0) refl, inr (omega arith))
  ]
  | inr from ↦ let a = from.1 in inr (rw from.0 refl, inl (omega arith))
]

pub found-here : (offset : ℕ) (span : WordSpan) (spans : List WordSpan) → span.offset ≤ offset → offset < span.offset + span.count → found offset (span ∷ spans) ≡ Some span.value
found-here offset span spans from to = elim (within_tells offset span) [
  | inl h ↦ rw h.0 refl
  | inr h ↦ elim h.1 [ inl below ↦ absurd (omega arith) | inr behind ↦ absurd (omega arith) ]
]

pub found-before : (offset : ℕ) (span : WordSpan) (spans : List WordSpan) → offset < span.offset → found offset (span ∷ spans) ≡ found offset spans
found-before offset span spans before = elim (within_tells offset span) [ inl h ↦ let from = h.1 in absurd (omega arith) | inr h ↦ rw h.0 refl ]

pub found-past : (offset : ℕ) (span : WordSpan) (spans : List WordSpan) → span.offset + span.count ≤ offset → found offset (span ∷ spans) ≡ found offset spans
found-past offset span spans past = elim (within_tells offset span) [ inl h ↦ let to = h.2 in absurd (omega arith) | inr h ↦ rw h.0 refl ]

-- nothing is found above rising spans, or below them
pub found-above : (offset low : ℕ) (spans : List WordSpan) (high : ℕ) → DoSpansRise low spans high → high ≤ offset → found offset spans ≡ None
found-above offset low [] high h k = refl
found-above offset low (span ∷ spans) high h k =
    let under = spans-order (span.offset + span.count) spans high h.2 in
    found-past offset span spans (omega arith) ∙ found-above offset (span.offset + span.count) spans high h.2 k

pub found-under : (offset low : ℕ) (spans : List WordSpan) (high : ℕ) → DoSpansRise low spans high → offset < low → found offset spans ≡ None
found-under offset low [] high h k = refl
found-under offset low (span ∷ spans) high h k =
    let first = h.0 in
    found-before offset span spans (omega arith) ∙ found-under offset (span.offset + span.count) spans high h.2 (omega arith)

-- parcels one behind the other rise, and what follows them rises from their end
pub parcels_rise : (instruction : Bool) (place : ℕ) (bits : List ℕ) → RiseWithin place (places (parcels_from instruction place bits)) (place + length bits)
parcels_rise instruction place [] = omega arith
parcels_rise instruction place (first ∷ bits) =
    (omega arith, rise-wider (place + 1) (places (parcels_from instruction (place + 1) bits)) (place + 1 + length bits) (place + suc (length bits)) (parcels_rise instruction (place + 1) bits) (omega arith))

behind_parcels : (instruction : Bool) (place : ℕ) (bits ns : List ℕ) (high : ℕ) →
    RiseWithin place (places (parcels_from instruction place bits) ++ ns) high → RiseWithin (place + length bits) ns high
behind_parcels instruction place [] ns high h = rise-lower (place + 0) place ns high h (omega arith)
behind_parcels instruction place (first ∷ bits) ns high h =
    rise-lower (place + suc (length bits)) (place + 1 + length bits) ns high (behind_parcels instruction (place + 1) bits ns high h.1) (omega arith)

pub span_rise : (low place : ℕ) (bits : List ℕ) (instruction : Bool) (ns : List ℕ) (high : ℕ) →
    RiseWithin low (places (parcels_from instruction place bits) ++ ns) high → 0 < length bits → (low ≤ place) × RiseWithin (place + length bits) ns high
span_rise low place [] instruction ns high h some = absurd (omega arith)
span_rise low place (first ∷ bits) instruction ns high h some =
    (h.0, rise-lower (place + suc (length bits)) (place + 1 + length bits) ns high (behind_parcels instruction (place + 1) bits ns high h.1) (omega arith))

pub units_le : (kind : DeckKind) (m n : ℕ) → m ≤ n → m / units kind ≤ n / units kind
units_le Rel m n h = omega arith
units_le Abs m n h = omega arith
units_le Periph m n h = omega arith

split_places : (low : ℕ) (xs ys : List Parcel) (high : ℕ) → RiseWithin low (places (xs ++ ys)) high → RiseWithin low (places xs ++ places ys) high
split_places low xs ys high h = rw places-append at h

-- where a word is left open before a span, and what is behind the span
pub after_span : (kind : DeckKind) (low place : ℕ) (bits : List ℕ) (instruction : Bool) (rest : List Parcel) (high before after : ℕ) →
    before ≤ low / units kind → RiseWithin low (places (parcels_from instruction place bits ++ rest)) high →
    (0 < length bits → after ≤ (place + length bits) / units kind) → (length bits ≡ 0 → after ≡ before) →
    (behind : ℕ) × (after ≤ behind / units kind) × RiseWithin behind (places rest) high
after_span kind low place [] instruction rest high before after h rise some none = let e : after ≡ before = none refl in (low, omega arith, rise)
after_span kind low place (first ∷ bits) instruction rest high before after h rise some none =
    let split = split_places low (parcels_from instruction place (first ∷ bits)) rest high rise in
    let parts = span_rise low place (first ∷ bits) instruction (places rest) high split (omega arith) in
    (place + length (first ∷ bits), some (omega arith), parts.1)

-- a span stands where its run may go on
pub span_order : (kind : DeckKind) (low place : ℕ) (bits : List ℕ) (instruction : Bool) (rest : List Parcel) (high before : ℕ) →
    before ≤ low / units kind → RiseWithin low (places (parcels_from instruction place bits ++ rest)) high → 0 < length bits →
    (before ≤ place / units kind) × (place + length bits ≤ high)
span_order kind low place bits instruction rest high before h rise some =
    let split = split_places low (parcels_from instruction place bits) rest high rise in
    let parts = span_rise low place bits instruction (places rest) high split some in
    let first = parts.0 in
    let le = units_le kind low place first in
    let top = rise-order (place + length bits) (places rest) high parts.1 in
    (omega arith, top)

-- the first of rising spans ends where the others begin
pub first_ends : (low : ℕ) (spans : List WordSpan) (span : WordSpan) (rest : List WordSpan) (high : ℕ) → spans ≡ span ∷ rest → DoSpansRise low spans high → (low ≤ span.offset) × (span.offset + span.count ≤ high)
first_ends low spans span rest high e h = let first : DoSpansRise low (span ∷ rest) high = subst (λ (l : List WordSpan). DoSpansRise low l high) e h in (first.0, spans-order (span.offset + span.count) rest high first.2)

pub order_of : (a b : ℕ) → (a < b) ⊎ (b ≤ a)
order_of a b = elim (leb_tells (suc a) b) [ inl e ↦ let h = e.1 in inl (omega arith) | inr e ↦ let h = e.1 in inr (omega arith) ]
