-- Statements whose fields are put one behind the other have the parcels of the definitions; what is put rises.
use Rattle.std.proofs.{Common.{◌≡◌, ◌≢◌, ℕ, zero, suc, ◌+◌, ◌-◌, ◌*◌, ◌/◌, ◌%◌, ◌^◌, ◌<◌, ◌≤◌, Bool, true, false, List, [], ◌∷◌, ◌++◌, reverse, refl, sym, ap, subst, ◌∙◌, arith, inl, inr}, lemmas.Bool.cases_order, lemmas.Bool.Decides.eqb_tells, lemmas.Nat.{pow_pos, le-div}, lemmas.List.reverse-append}
use Rattle.definitions.specs.{Characters.same_text, Kinds.{units, unit_bits, word_bits, most_words}, StatementItems.Item, Words.{Parcel, Coded, Linking, cut, parcels_from, width_of, joined, content_bits, parcels_of, onto_runs, runs_of}, Operations.is_instruction, declared.deck_kind.DeckKind.DeckKind, declared.deck_kind.DeckKind.TheVariants.{Rel, Abs, Periph}}
use Rattle.parcel_packer.{specs.Joins.Packing.{OpenRun, Packed, DoItemsFit, end_bit, most_bits, moved, MayBegin, put_bit, put_bits, put_items, parcel_at, runs_in}, specs.Joins.Spans.{IsOpen, IsPut, IsKept, RiseWithin, DoRunsRise, places, parcels_in, run_of, span_parcels}, specs.declared.spans.Span.Span, specs.declared.spans.OpenParcel.OpenParcel, specs.declared.fields.Field.Field, proofs.PackingLaws.{cut-length, put_bits-joined, put_bits-whole, same_run}, proofs.ParcelSteps.{joined_below, parcels_in-push}, proofs.RiseLaws.{parcels_rise, rise-wider, rise-push, rise-append, places-append}}

joined-below : (linking : Linking) (items : List Item) → DoItemsFit linking items → joined linking items < 2 ^ width_of items
joined-below linking [] h = omega arith
joined-below linking (first ∷ items) h =
    joined_below (content_bits linking first.width first.content) (joined linking items) first.width (width_of items) h.0 (joined-below linking items h.1)

-- fields put one behind the other are put as one number
put_items-joined : (size : ℕ) (instruction : Bool) (linking : Linking) (items : List Item) (run : OpenRun) → DoItemsFit linking items →
    put_items size instruction linking items run ≡ put_bits size instruction (width_of items) (joined linking items) run
put_items-joined size instruction linking [] run h = refl
put_items-joined size instruction linking (first ∷ items) run h =
    put_items-joined size instruction linking items (put_bits size instruction first.width (content_bits linking first.width first.content) run) h.1
    ∙ sym (put_bits-joined size instruction first.width (width_of items) (content_bits linking first.width first.content) (joined linking items) run (joined-below linking items h.1))

fresh_run : (run : OpenRun) (place : ℕ) → run.filled ≡ 0 → run.bits ≡ 0 → run.place ≡ place → run ≡ record { parcels = run.parcels; place = place; filled = 0; bits = 0 }
fresh_run run place f b p = same_run run.parcels run.parcels run.place place run.filled 0 run.bits 0 refl p f b

-- fields that fill whole parcels are their number cut
pub items_whole : (size : ℕ) (instruction : Bool) (linking : Linking) (items : List Item) (count : ℕ) (run : OpenRun) → 0 < size → run.filled ≡ 0 → run.bits ≡ 0 →
    width_of items ≡ size * count → DoItemsFit linking items →
    put_items size instruction linking items run ≡ record { parcels = run.parcels ++ parcels_from instruction run.place (cut size count (joined linking items)); place = run.place + count; filled = 0; bits = 0 }
items_whole size instruction linking items count run some f b width fits =
    put_items-joined size instruction linking items run fits
    ∙ ap (λ w. put_bits size instruction w (joined linking items) run) width
    ∙ ap (λ r. put_bits size instruction (size * count) (joined linking items) r) (fresh_run run run.place f b refl)
    ∙ put_bits-whole size instruction count (joined linking items) run.place run.parcels some (rw (← width) (joined-below linking items fits))

pub unit_some : (kind : DeckKind) → 0 < unit_bits kind
unit_some Rel = omega arith
unit_some Abs = omega arith
unit_some Periph = omega arith

-- the parcels of a statement with fields, or without
statement_parcels : (kind : DeckKind) (linking : Linking) (coded : Coded) (fields : List Item) → coded.fields ≡ fields → width_of fields ≡ unit_bits kind * (coded.settled.end - coded.settled.place) →
    parcels_from (is_instruction coded.settled.read.operation) coded.settled.place (cut (unit_bits kind) (coded.settled.end - coded.settled.place) (joined linking coded.fields)) ≡ parcels_of kind linking coded
statement_parcels kind linking coded [] e width = rw e (none (coded.settled.end - coded.settled.place) width)
  where
    none : (count : ℕ) → 0 ≡ unit_bits kind * count → parcels_from (is_instruction coded.settled.read.operation) coded.settled.place (cut (unit_bits kind) count 0) ≡ []
    none zero h = refl
    none (suc count) h = let some = unit_some kind in let product : unit_bits kind * suc count ≡ unit_bits kind * count + unit_bits kind = omega arith in absurd (omega (arith, product))
statement_parcels kind linking coded (first ∷ fields) e width = rw e refl

unit_place : (kind : DeckKind) (place : ℕ) → unit_bits kind * place / unit_bits kind ≡ place
unit_place Rel place = omega arith
unit_place Abs place = omega arith
unit_place Periph place = omega arith

moved_fresh : (size at_bit place : ℕ) (run : OpenRun) → run.filled ≡ 0 → run.bits ≡ 0 → at_bit / size ≡ place → moved size at_bit run ≡ record { parcels = run.parcels; place = place; filled = 0; bits = 0 }
moved_fresh size at_bit place run f b p = elim (eqb_tells run.filled 0) [
  | inl test ↦ rw test.0 (fresh_run (record { parcels = run.parcels; place = at_bit / size; filled = 0; bits = run.bits }) place refl b p)
  | inr test ↦ absurd (test.1 f)
]

-- a statement whose fields are put from its place to its end has the parcels of the definitions
pub statement_put : (kind : DeckKind) (linking : Linking) (coded : Coded) (run : OpenRun) → run.filled ≡ 0 → run.bits ≡ 0 →
    width_of coded.fields ≡ unit_bits kind * (coded.settled.end - coded.settled.place) → DoItemsFit linking coded.fields →
    put_items (unit_bits kind) (is_instruction coded.settled.read.operation) linking coded.fields (moved (unit_bits kind) (unit_bits kind * coded.settled.place) run)
    ≡ record { parcels = run.parcels ++ parcels_of kind linking coded; place = coded.settled.place + (coded.settled.end - coded.settled.place); filled = 0; bits = 0 }
statement_put kind linking coded run f b width fits =
    let size = unit_bits kind in
    let place = coded.settled.place in
    let count = coded.settled.end - coded.settled.place in
    let instruction = is_instruction coded.settled.read.operation in
    ap (λ r. put_items size instruction linking coded.fields r) (moved_fresh size (size * place) place run f b (unit_place kind place))
    ∙ items_whole size instruction linking coded.fields count (record { parcels = run.parcels; place = place; filled = 0; bits = 0 }) (unit_some kind) refl refl width fits
    ∙ ap (λ ps. record { parcels = run.parcels ++ ps; place = place + count; filled = 0; bits = 0 }) (statement_parcels kind linking coded coded.fields refl width)

-- a statement of the block that begins no run joins the latest one
pub runs_put : (kind : DeckKind) (linking : Linking) (block : List ℕ) (coded : Coded) (earlier : List Coded) (packed : Packed) →
    runs_in packed ≡ runs_of kind linking block earlier → same_text coded.settled.block block ≡ true → coded.settled.begins_run ≡ false →
    ((packed.run.parcels ++ parcels_of kind linking coded) ∷ packed.earlier) ≡ runs_of kind linking block (coded ∷ earlier)
runs_put kind linking block coded earlier packed runs here joins =
    onto (runs_of kind linking block earlier) (same_text coded.settled.block block) coded.settled.begins_run runs here joins
  where
    onto : (old : List (List Parcel)) (test begins : Bool) → (packed.run.parcels ∷ packed.earlier) ≡ old → test ≡ true → begins ≡ false →
        ((packed.run.parcels ++ parcels_of kind linking coded) ∷ packed.earlier) ≡ elim test [ true ↦ onto_runs begins (parcels_of kind linking coded) old | false ↦ old ]
    onto old test begins e t n = rw (t, n) (ap (λ o. onto_runs false (parcels_of kind linking coded) o) e)

-- an ORG of the block begins a run
pub runs_begun : (kind : DeckKind) (linking : Linking) (block : List ℕ) (coded : Coded) (earlier : List Coded) (packed : Packed) →
    runs_in packed ≡ runs_of kind linking block earlier → same_text coded.settled.block block ≡ true → coded.settled.begins_run ≡ true →
    ([] ∷ runs_in packed) ≡ runs_of kind linking block (coded ∷ earlier)
runs_begun kind linking block coded earlier packed runs here begins =
    onto (runs_of kind linking block earlier) (same_text coded.settled.block block) coded.settled.begins_run runs here begins
  where
    onto : (old : List (List Parcel)) (test begins : Bool) → (packed.run.parcels ∷ packed.earlier) ≡ old → test ≡ true → begins ≡ true →
        ([] ∷ packed.run.parcels ∷ packed.earlier) ≡ elim test [ true ↦ onto_runs begins (parcels_of kind linking coded) old | false ↦ old ]
    onto old test begins e t n = rw (t, n) (ap (λ o. [] ∷ o) e)

-- what is put rises
put_bit-rise : (size : ℕ) (instruction : Bool) (bit : ℕ) (run : OpenRun) → RiseWithin 0 (places run.parcels) run.place →
    RiseWithin 0 (places (put_bit size instruction bit run).parcels) (put_bit size instruction bit run).place
put_bit-rise size instruction bit run h = elim (eqb_tells (run.filled + 1) size) [
  | inl e ↦ rw e.0 (pushed (2 * run.bits + bit))
  | inr e ↦ rw e.0 h
]
  where
    pushed : (bits : ℕ) → RiseWithin 0 (places (run.parcels ++ parcel_at instruction run.place bits ∷ [])) (run.place + 1)
    pushed bits = rw places-append (rise-push 0 (places run.parcels) run.place (run.place + 1) h (omega arith))

put_bits-rise : (size : ℕ) (instruction : Bool) (width number : ℕ) (run : OpenRun) → RiseWithin 0 (places run.parcels) run.place →
    RiseWithin 0 (places (put_bits size instruction width number run).parcels) (put_bits size instruction width number run).place
put_bits-rise size instruction zero number run h = h
put_bits-rise size instruction (suc width) number run h =
    put_bit-rise size instruction (number % 2) (put_bits size instruction width (number / 2) run) (put_bits-rise size instruction width (number / 2) run h)

-- where the open parcel is once a place is chosen
pub record IsMoved (size : ℕ) (old new : OpenParcel) (at_bit : ℕ) : Type 0 where
  pub at : size * new.place + new.filled ≡ at_bit
  pub on : old.place ≤ new.place
  pub filled : new.filled ≡ old.filled
  pub bits : new.bits ≡ old.bits

same_open : (size : ℕ) (spans : List Span) (a : OpenParcel) (r : OpenRun) → run_of size spans a ≡ r → (a.place ≡ r.place) × (a.filled ≡ r.filled) × (a.bits ≡ r.bits)
same_open size spans a r e = (ap (λ (x : OpenRun). x.place) e, ap (λ (x : OpenRun). x.filled) e, ap (λ (x : OpenRun). x.bits) e)

whole_parcels : (size n : ℕ) → 0 < size → n % size ≡ 0 → size * (n / size) ≡ n
whole_parcels size n some h = omega arith

pub moved_open : (size : ℕ) (spans : List Span) (old new : OpenParcel) (at_bit : ℕ) → 0 < size → run_of size spans new ≡ moved size at_bit (run_of size spans old) → MayBegin size (run_of size spans old) at_bit → IsMoved size old new at_bit
moved_open size spans old new at_bit some e may = elim (eqb_tells old.filled 0) [
  | inl test ↦
      let first = test.1 in
      let parts = same_open size spans new (record { parcels = parcels_in size spans; place = at_bit / size; filled = 0; bits = old.bits }) (rw test.0 at e) in
      let whole = whole_parcels size at_bit some (may.1 first) in
      let p = parts.0 in
      let f = parts.1 in
      let behind = may.0 in
      let turned : old.place * size ≤ at_bit = omega arith in
      let reached = le-div old.place at_bit size some turned in
      let product : size * new.place ≡ size * (at_bit / size) = ap (λ n. size * n) p in
      record { at = omega arith; on = omega arith; filled = omega arith; bits = parts.2 }
  | inr test ↦
      let parts = same_open size spans new (run_of size spans old) (rw test.0 at e) in
      let p = parts.0 in
      let f = parts.1 in
      let positive : 0 < old.filled = not_zero old.filled test.1 in
      let here = may.2 positive in
      let product : size * new.place ≡ size * old.place = ap (λ n. size * n) p in
      record { at = omega arith; on = omega arith; filled = f; bits = parts.2 }
]
  where
    not_zero : (n : ℕ) → n ≢ 0 → 0 < n
    not_zero zero h = absurd (h refl)
    not_zero (suc n) h = omega arith

most_parcels : (kind : DeckKind) → most_bits kind ≤ unit_bits kind * 524288
most_parcels Rel = omega arith
most_parcels Abs = omega arith
most_parcels Periph = omega arith

-- a field that ends within its block ends within so many parcels
pub within_parcels : (kind : DeckKind) (size end : ℕ) → size ≡ unit_bits kind → end ≤ most_bits kind → end ≤ size * 524288
within_parcels kind size end e h = let most = most_parcels kind in rw e (omega arith)

end_within : (kind : DeckKind) (place filled : ℕ) → unit_bits kind * place + filled ≤ unit_bits kind * 524288 → place ≤ 524288
end_within Rel place filled h = omega arith
end_within Abs place filled h = omega arith
end_within Periph place filled h = omega arith

-- a field that is put leaves the block as it is to be kept
pub put_kept : (kind : DeckKind) (size : ℕ) (old new : List Span) (before next after : OpenParcel) (at_bit : ℕ) (field : Field) (earlier : List (List Parcel)) → size ≡ unit_bits kind →
    IsKept kind old before earlier → IsMoved size before next at_bit → IsPut size old next field new after → at_bit + field.width ≤ most_bits kind → IsKept kind new after earlier
put_kept kind size old new before next after at_bit field earlier e kept m put within =
    let Opens : ℕ → Type 0 = λ n. IsOpen n after in
    let Rises : OpenRun → Type 0 = λ r. RiseWithin 0 (places r.parcels) r.place in
    let Before : ℕ → Type 0 = λ n. RiseWithin 0 (places (parcels_in n old)) before.place in
    let After : ℕ → Type 0 = λ n. RiseWithin 0 (places (parcels_in n new)) after.place in
    let most = within_parcels kind size (at_bit + field.width) e within in
    let end = put.end in
    let at = m.at in
    let reached : size * after.place + after.filled ≤ size * 524288 = omega arith in
    record {
      is_open = subst Opens e put.is_open;
      rise = subst After e
          (subst Rises (sym put.run) (put_bits-rise size field.is_instruction field.width field.bits (run_of size old next) (rise-wider 0 (places (parcels_in size old)) before.place next.place (subst Before (sym e) kept.rise) m.on)));
      within = end_within kind after.place after.filled (rw e at reached);
      runs_rise = kept.runs_rise;
    }

-- zero words
word_parcels : (kind : DeckKind) (count : ℕ) → word_bits kind * count ≡ unit_bits kind * (units kind * count)
word_parcels Rel count = omega arith
word_parcels Abs count = omega arith
word_parcels Periph count = omega arith

word_place : (kind : DeckKind) (word : ℕ) → word_bits kind * word / unit_bits kind ≡ units kind * word
word_place Rel word = omega arith
word_place Abs word = omega arith
word_place Periph word = omega arith

no_bits : (filled bits : ℕ) → filled ≡ 0 → bits < 2 ^ filled → bits ≡ 0
no_bits zero bits e h = omega arith
no_bits (suc filled) bits e h = absurd (omega arith)

pub zeros_put : (kind : DeckKind) (word count : ℕ) (old new : List Span) (next : OpenParcel) → next.filled ≡ 0 → IsOpen (unit_bits kind) next →
    new ≡ old ++ (let s : Span = record { place = units kind * word; count = units kind * count; bits = 0; is_instruction = false } in s) ∷ [] →
    run_of (unit_bits kind) new (record { place = units kind * word + units kind * count; filled = 0; bits = 0 })
    ≡ put_bits (unit_bits kind) false (word_bits kind * count) 0 (moved (unit_bits kind) (word_bits kind * word) (run_of (unit_bits kind) old next))
zeros_put kind word count old new next f h pushed =
    let place = units kind * word in
    let zeros = units kind * count in
    let span : Span = record { place = place; count = zeros; bits = 0; is_instruction = false } in
    let fresh = moved_fresh (unit_bits kind) (word_bits kind * word) place (run_of (unit_bits kind) old next) f (no_bits next.filled next.bits f h.bits_fit) (word_place kind word) in
    sym (ap (λ r. put_bits (unit_bits kind) false (word_bits kind * count) 0 r) fresh
    ∙ ap (λ w. put_bits (unit_bits kind) false w 0 (record { parcels = parcels_in (unit_bits kind) old; place = place; filled = 0; bits = 0 })) (word_parcels kind count)
    ∙ put_bits-whole (unit_bits kind) false zeros 0 place (parcels_in (unit_bits kind) old) (unit_some kind) (pow_pos (unit_bits kind * zeros))
    ∙ ap (λ ps. record { parcels = ps; place = place + zeros; filled = 0; bits = 0 }) (sym (ap (parcels_in (unit_bits kind)) pushed ∙ parcels_in-push (unit_bits kind) old span)))

most_units : (kind : DeckKind) (n : ℕ) → n ≤ most_words kind → units kind * n ≤ 524288
most_units Rel n h = omega arith
most_units Abs n h = omega arith
most_units Periph n h = omega arith

pub zeros_kept : (kind : DeckKind) (word count : ℕ) (old new : List Span) (next : OpenParcel) (earlier : List (List Parcel)) → IsKept kind old next earlier → next.place ≤ units kind * word → word + count ≤ most_words kind →
    new ≡ old ++ (let s : Span = record { place = units kind * word; count = units kind * count; bits = 0; is_instruction = false } in s) ∷ [] →
    IsKept kind new (record { place = units kind * word + units kind * count; filled = 0; bits = 0 }) earlier
zeros_kept kind word count old new next earlier h begins within pushed =
    let place = units kind * word in
    let zeros = units kind * count in
    let span : Span = record { place = place; count = zeros; bits = 0; is_instruction = false } in
    let most = most_units kind (word + count) within in
    let product : units kind * (word + count) ≡ units kind * word + units kind * count = omega arith in
    let Rises : List Parcel → Type 0 = λ ps. RiseWithin 0 (places ps) (place + zeros) in
    let Ends : ℕ → Type 0 = λ n. RiseWithin place (places (span_parcels (unit_bits kind) span)) (place + n) in
    record {
      is_open = record { has_room = unit_some kind; bits_fit = omega arith };
      rise = subst Rises (sym (ap (parcels_in (unit_bits kind)) pushed ∙ parcels_in-push (unit_bits kind) old span))
          (rise_both (parcels_in (unit_bits kind) old) (span_parcels (unit_bits kind) span) place (place + zeros) (rise-wider 0 (places (parcels_in (unit_bits kind) old)) next.place place h.rise begins)
          (subst Ends (cut-length (unit_bits kind) zeros 0) (parcels_rise false place (cut (unit_bits kind) zeros 0))));
      within = omega arith;
      runs_rise = h.runs_rise;
    }
  where
    rise_both : (xs ys : List Parcel) (middle high : ℕ) → RiseWithin 0 (places xs) middle → RiseWithin middle (places ys) high → RiseWithin 0 (places (xs ++ ys)) high
    rise_both xs ys middle high a b = rw places-append (rise-append 0 (places xs) (places ys) middle high a b)

-- a run more, which is the latest
pub runs_rise-push : (runs : List (List Parcel)) (run : List Parcel) → DoRunsRise runs → RiseWithin 0 (places run) 524288 → DoRunsRise (runs ++ run ∷ [])
runs_rise-push [] run h k = (k, tt)
runs_rise-push (first ∷ runs) run h k = (h.0, runs_rise-push runs run h.1 k)

pub reverse-push : (runs : List (List Parcel)) (run : List Parcel) → reverse (runs ++ run ∷ []) ≡ run ∷ reverse runs
reverse-push runs run = reverse-append runs (run ∷ [])

pub empty_kept : (kind : DeckKind) (earlier : List (List Parcel)) → DoRunsRise earlier → IsKept kind [] (record { place = 0; filled = 0; bits = 0 }) earlier
empty_kept kind earlier h = record { is_open = record { has_room = unit_some kind; bits_fit = omega arith }; rise = omega arith; within = omega arith; runs_rise = h }

pub whole_rise : (kind : DeckKind) (spans : List Span) (next : OpenParcel) (earlier : List (List Parcel)) → IsKept kind spans next earlier → RiseWithin 0 (places (parcels_in (unit_bits kind) spans)) 524288
whole_rise kind spans next earlier h = rise-wider 0 (places (parcels_in (unit_bits kind) spans)) next.place 524288 h.rise h.within

-- a place behind the last bit is where the next bit goes anyhow
pub moved_stays : (kind : DeckKind) (run : OpenRun) → moved (unit_bits kind) (end_bit (unit_bits kind) run) run ≡ run
moved_stays kind run = elim (eqb_tells run.filled 0) [
  | inl test ↦ rw test.0 (same_run run.parcels run.parcels ((unit_bits kind * run.place + run.filled) / unit_bits kind) run.place 0 run.filled run.bits run.bits refl (here test.1) (sym test.1) refl)
  | inr test ↦ rw test.0 refl
]
  where
    here : run.filled ≡ 0 → (unit_bits kind * run.place + run.filled) / unit_bits kind ≡ run.place
    here f = ap (λ n. n / unit_bits kind) (omega arith) ∙ unit_place kind run.place

-- a run ends so many bits behind where it ended
put_bit-end : (size : ℕ) (instruction : Bool) (bit : ℕ) (run : OpenRun) → run.filled < size →
    (end_bit size (put_bit size instruction bit run) ≡ end_bit size run + 1) × ((put_bit size instruction bit run).filled < size)
put_bit-end size instruction bit run h = elim (eqb_tells (run.filled + 1) size) [
  | inl e ↦ let full = e.1 in let product : size * (run.place + 1) ≡ size * run.place + size = omega arith in rw e.0 (omega (arith, product), omega arith)
  | inr e ↦ let room : run.filled + 1 < size = below (run.filled + 1) size e.1 (omega arith) in rw e.0 (omega arith, room)
]
  where
    below : (a b : ℕ) → a ≢ b → a ≤ b → a < b
    below a b other h = elim (cases_order a b) [ inl e ↦ absurd (other e) | inr r ↦ omega arith ]

pub put_bits-end : (size : ℕ) (instruction : Bool) (width number : ℕ) (run : OpenRun) → run.filled < size →
    (end_bit size (put_bits size instruction width number run) ≡ end_bit size run + width) × ((put_bits size instruction width number run).filled < size)
put_bits-end size instruction zero number run h = (omega arith, h)
put_bits-end size instruction (suc width) number run h =
    let front = put_bits-end size instruction width (number / 2) run h in
    let step = put_bit-end size instruction (number % 2) (put_bits size instruction width (number / 2) run) front.1 in
    let before = front.0 in
    let after = step.0 in
    (omega arith, step.1)
