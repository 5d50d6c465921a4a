-- The steps of gathering a run, span by span.
use Rattle.std.proofs.{Common.{◌≡◌, ℕ, suc, ◌+◌, ◌-◌, ◌*◌, ◌/◌, ◌%◌, ◌^◌, ◌<◌, ◌≤◌, Bool, List, [], ◌∷◌, ◌++◌, length, take, drop, get_or, sym, ap, ◌∙◌, arith, subst}, Math.Nat.{div-one, pow-le-pow_right}, lemmas.Nat.{shr-shr, shr_below, shr_split}, lemmas.List.{drop_more, take_more}}
use Rattle.definitions.specs.{Kinds.{units, unit_bits}, Words.{Parcel, cut, parcels_from}, declared.deck_kind.DeckKind.DeckKind}
use Rattle.parcel_packer.{specs.Joins.Packing.parcel_at, specs.Joins.Spans.{RiseWithin, places, parcels_in, span_parcels}, specs.declared.spans.Span.Span, proofs.PackingLaws.{cut-length, last_parcel}, proofs.ParcelSteps.parcels_in-push, proofs.RiseLaws.{after_span, span_order}}

-- one parcel more of a span
pub span_more : (parcels : List Parcel) (instruction : Bool) (place size count index bits : ℕ) → index < count →
    (parcels ++ parcels_from instruction place (cut size index (bits / 2 ^ (size * (count - index))))) ++ parcel_at instruction (place + index) (bits / 2 ^ (size * (count - 1 - index)) % 2 ^ size) ∷ []
    ≡ parcels ++ parcels_from instruction place (cut size (index + 1) (bits / 2 ^ (size * (count - (index + 1)))))
span_more parcels instruction place size count index bits h =
    let behind = count - (index + 1) in
    let number = bits / 2 ^ (size * behind) in
    let last = bits / 2 ^ (size * (count - 1 - index)) % 2 ^ size in
    let one_more : count - index ≡ behind + 1 = omega arith in
    let product : size * (behind + 1) ≡ size * behind + size = omega arith in
    let here : count - 1 - index ≡ behind = omega arith in
    let more : suc index ≡ index + 1 = omega arith in
    let front : bits / 2 ^ (size * (count - index)) ≡ number / 2 ^ size = ap (λ n. bits / 2 ^ (size * n)) one_more ∙ ap (λ n. bits / 2 ^ n) product ∙ sym (shr-shr bits (size * behind) size) in
    ap (λ n. (parcels ++ parcels_from instruction place (cut size index n)) ++ parcel_at instruction (place + index) last ∷ []) front
    ∙ last_parcel instruction place index last (number % 2 ^ size) parcels (cut size index (number / 2 ^ size)) (cut-length size index (number / 2 ^ size)) (ap (λ n. bits / 2 ^ (size * n) % 2 ^ size) here)
    ∙ ap (λ n. parcels ++ parcels_from instruction place (cut size n number)) more

-- a parcel before all bits has none
pub past_all : (size behind bits : ℕ) → bits < 2 ^ 64 → 64 ≤ size * behind → 0 ≡ bits / 2 ^ (size * behind) % 2 ^ size
past_all size behind bits fits past =
    let from : 64 ≤ 0 + size * behind = omega arith in
    let wide : 2 ^ 64 ≤ 2 ^ (0 + size * behind) = pow-le-pow_right {n = 2} (omega arith) from in
    let below : bits / 2 ^ (size * behind) < 2 ^ 0 = shr_below bits 0 (size * behind) (omega (arith, fits, wide)) in
    let none : bits / 2 ^ (size * behind) ≡ 0 = omega arith in
    let split = shr_split 0 size in
    rw none (omega arith)

-- all parcels of a span
pub span_all : (size count bits : ℕ) → cut size count (bits / 2 ^ (size * (count - count))) ≡ cut size count bits
span_all size count bits =
    let none : count - count ≡ 0 = omega arith in
    let zero_bits : size * 0 ≡ 0 = omega arith in
    ap (λ n. cut size count (bits / 2 ^ (size * n))) none ∙ ap (λ n. cut size count (bits / 2 ^ n)) zero_bits ∙ ap (λ n. cut size count n) (div-one bits)

-- one span more of a run
pub run_more : (size : ℕ) (run : List Span) (index : ℕ) (d : Span) → index < length run → parcels_in size (take index run) ++ span_parcels size (get_or run index d) ≡ parcels_in size (take (index + 1) run)
run_more size run index d h = sym (parcels_in-push size (take index run) (get_or run index d)) ∙ ap (parcels_in size) (sym (take_more run index d h))

-- where the open word is, and from where the rest of a run rises
abbrev pub StandsBefore : DeckKind → ℕ → List Span → Type 0
StandsBefore kind word rest = (low : ℕ) × (word ≤ low / units kind) × RiseWithin low (places (parcels_in (unit_bits kind) rest)) 524288

rest_from : (kind : DeckKind) (word : ℕ) (run : List Span) (index : ℕ) (d : Span) → index < length run → StandsBefore kind word (drop index run) → StandsBefore kind word (get_or run index d ∷ drop (index + 1) run)
rest_from kind word run index d h stands = let P : List Span → Type 0 = λ rest. StandsBefore kind word rest in subst P (drop_more run index d h) stands

pub next_order : (kind : DeckKind) (word : ℕ) (run : List Span) (index : ℕ) (d : Span) → index < length run → StandsBefore kind word (drop index run) → 0 < (get_or run index d).count →
    (word ≤ (get_or run index d).place / units kind) × ((get_or run index d).place + (get_or run index d).count ≤ 524288)
next_order kind word run index d h stands some =
    let s = get_or run index d in
    let from = rest_from kind word run index d h stands in
    let bits = cut (unit_bits kind) s.count s.bits in
    let many : length bits ≡ s.count = cut-length (unit_bits kind) s.count s.bits in
    let order = span_order kind from.0 s.place bits s.is_instruction (parcels_in (unit_bits kind) (drop (index + 1) run)) 524288 word from.1 from.2 (rw many some) in
    (order.0, rw many at order.1)

pub next_stands : (kind : DeckKind) (word after : ℕ) (run : List Span) (index : ℕ) (d : Span) → index < length run → StandsBefore kind word (drop index run) →
    (0 < (get_or run index d).count → after ≤ ((get_or run index d).place + (get_or run index d).count) / units kind) → ((get_or run index d).count ≡ 0 → after ≡ word) →
    StandsBefore kind after (drop (index + 1) run)
next_stands kind word after run index d h stands some none =
    let s = get_or run index d in
    let from = rest_from kind word run index d h stands in
    let bits = cut (unit_bits kind) s.count s.bits in
    let many : length bits ≡ s.count = cut-length (unit_bits kind) s.count s.bits in
    after_span kind from.0 s.place bits s.is_instruction (parcels_in (unit_bits kind) (drop (index + 1) run)) 524288 word after from.1 from.2
    (λ positive. rw many (some (rw many at positive))) (λ empty. none (rw many at empty))
