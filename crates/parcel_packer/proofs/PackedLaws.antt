-- The block as contracts see it, before and after a put.
use Rattle.std.{proofs.Common.{◌≡◌, ℕ, ◌+◌, ◌*◌, ◌<◌, ◌≤◌, List, [], ◌∷◌, ◌++◌, reverse, sym, ap, subst, ◌∙◌}, specs.Prelude.{Vec, false}, specs.Option.option_or}
use Rattle.definitions.specs.{Kinds.{units, unit_bits, word_bits, most_words}, Words.{Parcel, stored, words_in}, declared.deck_kind.DeckKind.DeckKind}
use Rattle.parcel_packer.{specs.Joins.Packing.{MayBegin, OpenRun, Packed, empty_run, most_bits, moved, put_bits, runs_in}, specs.Joins.Spans.{DoRunsRise, IsKept, parcels_in, parcels_in_runs, run_of}, specs.Joins.Filling.{IsFilled, as_stored, found, latest_value, value_in}, specs.declared.word_spans.WordSpan.WordSpan, specs.declared.spans.Span.Span, specs.declared.spans.OpenParcel.OpenParcel, proofs.MergeLaws.parcels_in_runs-append, proofs.FillLaws.filled_stored, proofs.PutLaws.{zeros_kept, zeros_put, IsMoved, moved_open, reverse-push, runs_rise-push, unit_some, whole_rise}}

-- a block as contracts see it
abbrev pub block : DeckKind → OpenRun → List (List Parcel) → Packed
block kind run earlier = record { kind = kind; run = run; earlier = earlier }

pub put_moved : (packed : Packed) (kind : DeckKind) (size : ℕ) (spans : List Span) (old new : OpenParcel) (earlier : List (List Parcel)) (at_bit : ℕ) → block kind (run_of (unit_bits kind) spans old) earlier ≡ packed →
    size ≡ unit_bits kind → run_of size spans new ≡ moved size at_bit (run_of size spans old) → MayBegin (unit_bits packed.kind) packed.run at_bit → IsMoved size old new at_bit
put_moved packed kind size spans old new earlier at_bit view e h may =
    let begins : MayBegin (unit_bits kind) (run_of (unit_bits kind) spans old) at_bit = (let P : Packed → Type 0 = λ p. MayBegin (unit_bits p.kind) p.run at_bit in subst P (sym view) may) in
    let Begins : ℕ → Type 0 = λ n. MayBegin n (run_of n spans old) at_bit in
    let Some : ℕ → Type 0 = λ n. 0 < n in
    moved_open size spans old new at_bit (subst Some (sym e) (unit_some kind)) h (subst Begins (sym e) begins)

pub most_kept : (packed : Packed) (kind : DeckKind) (run : OpenRun) (earlier : List (List Parcel)) (end : ℕ) → block kind run earlier ≡ packed → end ≤ most_bits packed.kind → end ≤ most_bits kind
most_kept packed kind run earlier end view h = let P : Packed → Type 0 = λ p. end ≤ most_bits p.kind in subst P (sym view) h

-- the block once a run is begun
pub begun_view : {Z : Type 0} (packed : Packed) (kind : DeckKind) (spans : List Span) (next : OpenParcel) (old new : List (Vec Span Z)) (run : Vec Span Z) → block kind (run_of (unit_bits kind) spans next) (reverse (parcels_in_runs (unit_bits kind) old)) ≡ packed →
    new ≡ old ++ run ∷ [] → run.items ≡ spans →
    block kind empty_run (reverse (parcels_in_runs (unit_bits kind) new)) ≡ block packed.kind empty_run (packed.run.parcels ∷ packed.earlier)
begun_view packed kind spans next old new run view pushed e =
    let After : Packed → Type 0 = λ p. block kind empty_run (reverse (parcels_in_runs (unit_bits kind) new)) ≡ block p.kind empty_run (p.run.parcels ∷ p.earlier) in
    subst After view
    (ap (λ rs. block kind empty_run rs)
    (ap (λ rs. reverse (parcels_in_runs (unit_bits kind) rs)) pushed ∙ ap reverse (parcels_in_runs-append (unit_bits kind) old (run ∷ [])) ∙ reverse-push (parcels_in_runs (unit_bits kind) old) (parcels_in (unit_bits kind) run.items)
    ∙ ap (λ ss. parcels_in (unit_bits kind) ss ∷ reverse (parcels_in_runs (unit_bits kind) old)) e))

pub begun_kept : {Z : Type 0} (kind : DeckKind) (spans : List Span) (next : OpenParcel) (old new : List (Vec Span Z)) (run : Vec Span Z) → IsKept kind spans next (parcels_in_runs (unit_bits kind) old) →
    new ≡ old ++ run ∷ [] → run.items ≡ spans → DoRunsRise (parcels_in_runs (unit_bits kind) new)
begun_kept kind spans next old new run kept pushed e =
    rw (pushed, parcels_in_runs-append (unit_bits kind), e) (runs_rise-push (parcels_in_runs (unit_bits kind) old) (parcels_in (unit_bits kind) spans) kept.runs_rise (whole_rise kind spans next (parcels_in_runs (unit_bits kind) old) kept))

-- facts of the block are facts of what is kept
pub kept_filled : (packed : Packed) (kind : DeckKind) (spans : List Span) (next : OpenParcel) (earlier : List (List Parcel)) → block kind (run_of (unit_bits kind) spans next) earlier ≡ packed → packed.run.filled ≡ 0 → next.filled ≡ 0
kept_filled packed kind spans next earlier view h = let P : Packed → Type 0 = λ p. p.run.filled ≡ 0 in subst P (sym view) h

-- what is filled from a block is what the definitions store of its runs
pub fill_view : {Z : Type 0} (packed : Packed) (kind : DeckKind) (spans seen : List Span) (next : OpenParcel) (runs shown : List (Vec Span Z)) (newer older oldest words : List WordSpan) →
    block kind (run_of (unit_bits kind) spans next) (reverse (parcels_in_runs (unit_bits kind) runs)) ≡ packed → seen ≡ spans → shown ≡ runs → oldest ≡ older →
    IsFilled (value_in kind (parcels_in (unit_bits kind) seen)) newer → IsFilled (latest_value kind (parcels_in_runs (unit_bits kind) shown)) older → IsFilled (λ offset. option_or (found offset newer) (found offset oldest)) words →
    as_stored words ≡ stored packed.kind (runs_in packed) (words_in packed.kind (runs_in packed))
fill_view packed kind spans seen next runs shown newer older oldest words view s r o latest earlier both =
    let After : Packed → Type 0 = λ p. as_stored words ≡ stored p.kind (runs_in p) (words_in p.kind (runs_in p)) in
    let Latest : List Span → Type 0 = λ ss. IsFilled (value_in kind (parcels_in (unit_bits kind) ss)) newer in
    let Earlier : List (List Parcel) → Type 0 = λ rs. IsFilled (latest_value kind rs) oldest in
    let Old : List WordSpan → Type 0 = λ ws. IsFilled (latest_value kind (parcels_in_runs (unit_bits kind) shown)) ws in
    subst After view
    (filled_stored kind (parcels_in (unit_bits kind) spans) (parcels_in_runs (unit_bits kind) runs) newer oldest words (subst Latest s latest) (subst Earlier (ap (parcels_in_runs (unit_bits kind)) r) (subst Old (sym o) earlier)) both)

-- zero words put where a word has so many parcels
pub zeros_kept_by : (packed : Packed) (kind : DeckKind) (size word count : ℕ) (old new : List Span) (next : OpenParcel) (earlier seen : List (List Parcel)) → block kind (run_of (unit_bits kind) old next) seen ≡ packed → size ≡ units kind →
    IsKept kind old next earlier → packed.run.place ≤ units packed.kind * word → word + count ≤ most_words packed.kind →
    new ≡ old ++ (let s : Span = record { place = size * word; count = size * count; bits = 0; is_instruction = false } in s) ∷ [] →
    IsKept kind new (record { place = size * word + size * count; filled = 0; bits = 0 }) earlier
zeros_kept_by packed kind size word count old new next earlier seen view e kept begins within pushed =
    let Begins : Packed → Type 0 = λ p. p.run.place ≤ units p.kind * word in
    let Within : Packed → Type 0 = λ p. word + count ≤ most_words p.kind in
    let After : ℕ → Type 0 = λ n. new ≡ old ++ (let s : Span = record { place = n * word; count = n * count; bits = 0; is_instruction = false } in s) ∷ [] → IsKept kind new (record { place = n * word + n * count; filled = 0; bits = 0 }) earlier in
    subst After (sym e) (λ q. zeros_kept kind word count old new next earlier kept (subst Begins (sym view) begins) (subst Within (sym view) within) q) pushed

pub zeros_view : (packed : Packed) (kind : DeckKind) (size word count : ℕ) (old new : List Span) (next : OpenParcel) (earlier seen : List (List Parcel)) → block kind (run_of (unit_bits kind) old next) seen ≡ packed → size ≡ units kind →
    IsKept kind old next earlier → packed.run.filled ≡ 0 →
    new ≡ old ++ (let s : Span = record { place = size * word; count = size * count; bits = 0; is_instruction = false } in s) ∷ [] →
    block kind (run_of (unit_bits kind) new (record { place = size * word + size * count; filled = 0; bits = 0 })) seen
    ≡ block packed.kind (put_bits (unit_bits packed.kind) false (word_bits packed.kind * count) 0 (moved (unit_bits packed.kind) (word_bits packed.kind * word) packed.run)) packed.earlier
zeros_view packed kind size word count old new next earlier seen view e kept whole pushed =
    let After : ℕ → Type 0 = λ n. new ≡ old ++ (let s : Span = record { place = n * word; count = n * count; bits = 0; is_instruction = false } in s) ∷ [] →
    block kind (run_of (unit_bits kind) new (record { place = n * word + n * count; filled = 0; bits = 0 })) seen
    ≡ block kind (put_bits (unit_bits kind) false (word_bits kind * count) 0 (moved (unit_bits kind) (word_bits kind * word) (run_of (unit_bits kind) old next))) seen in
    let Seen : Packed → Type 0 = λ p. block kind (run_of (unit_bits kind) new (record { place = size * word + size * count; filled = 0; bits = 0 })) seen
    ≡ block p.kind (put_bits (unit_bits p.kind) false (word_bits p.kind * count) 0 (moved (unit_bits p.kind) (word_bits p.kind * word) p.run)) p.earlier in
    let filled = kept_filled packed kind old next seen view whole in
    subst Seen view (subst After (sym e) (λ q. ap (λ r. block kind r seen) (zeros_put kind word count old new next filled kept.is_open q)) pushed)
