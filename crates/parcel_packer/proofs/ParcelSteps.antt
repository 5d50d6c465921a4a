-- The steps of putting a field into a run.
use Rattle.std.proofs.{Common.{◌≡◌, ℕ, ◌+◌, ◌-◌, ◌*◌, ◌/◌, ◌%◌, ◌^◌, ◌<◌, ◌≤◌, List, [], ◌∷◌, ◌++◌, refl, sym, ap, ◌∙◌, arith, inl, inr, append_assoc, append-nil}, Math.Nat.{le-mul_of_pos_right, mod-lt}, lemmas.Nat.{pow-add, pow_pos, le-div, mod_below, shr_below, shr_split, mul-le, mul-add-lt}}
use Rattle.parcel_packer.{specs.Joins.Packing.{OpenRun, put_bits}, specs.Joins.Spans.{IsOpen, IsPut, parcels_in, span_parcels, run_of}, specs.declared.spans.Span.Span, specs.declared.spans.OpenParcel.OpenParcel, specs.declared.fields.Field.Field, proofs.PackingLaws.{put_bits-joined, put_bits-whole, put_bits-within, same_bits, same_run}, proofs.RiseLaws.order_of}

-- bits behind the bits of an open parcel fit both widths together
pub joined_below : (a b f w : ℕ) → a < 2 ^ f → b < 2 ^ w → a * 2 ^ w + b < 2 ^ (f + w)
joined_below a b f w h k =
    let together : 2 ^ (f + w) ≡ 2 ^ f * 2 ^ w = pow-add 2 f w in
    let below = mul-add-lt a (2 ^ w) b (2 ^ f) h k in
    let turned : 2 ^ w * 2 ^ f ≡ 2 ^ f * 2 ^ w = omega arith in
    omega (arith, together, below, turned)

-- one span more
pub parcels_in-push : (size : ℕ) (spans : List Span) (span : Span) → parcels_in size (spans ++ span ∷ []) ≡ parcels_in size spans ++ span_parcels size span
parcels_in-push size [] span = append-nil (span_parcels size span)
parcels_in-push size (first ∷ spans) span =
    ap (λ ps. span_parcels size first ++ ps) (parcels_in-push size spans span) ∙ sym (append_assoc (span_parcels size first) (parcels_in size spans) (span_parcels size span))

-- a field that stays within the open parcel
pub field_within : (size : ℕ) (spans : List Span) (next : OpenParcel) (field : Field) (bits : ℕ) → field.bits < 2 ^ field.width → next.filled + field.width < size →
    bits ≡ next.bits * 2 ^ field.width + field.bits → bits < 2 ^ (next.filled + field.width) →
    IsPut size spans next field spans (record { place = next.place; filled = next.filled + field.width; bits = bits })
field_within size spans next field bits fits room e below = record {
  run = same_run (parcels_in size spans) (parcels_in size spans) next.place next.place (next.filled + field.width) (next.filled + field.width) bits (next.bits * 2 ^ field.width + field.bits) refl refl refl e
      ∙ sym (put_bits-within size field.is_instruction field.width field.bits (run_of size spans next) fits room);
  is_open = record { has_room = room; bits_fit = below };
  end = omega arith;
}

-- how many parcels are whole, and how many bits lie behind them
pub record AreParted (size filled width count left : ℕ) : Type 0 where
  pub parts : size * count + left ≡ filled + width
  pub short : left < size
  pub inside : left ≤ width
  pub front : filled + (width - left) ≡ size * count

pub parted : (size filled width : ℕ) → filled < size → size ≤ filled + width → AreParted size filled width ((filled + width) / size) ((filled + width) % size)
parted size filled width h full =
    let total = filled + width in
    let some : 0 < size = omega arith in
    let short = mod_below total size some in
    let parts : size * (total / size) + total % size ≡ total = omega arith in
    let one : 1 * size ≤ total = omega arith in
    let whole = le-mul_of_pos_right {m = total / size} size (le-div 1 total size some one) in
    record { parts = parts; short = short; inside = omega (arith, parts, whole); front = omega (arith, parts, whole) }

-- the parcels that a field makes whole have at most 60 bits, where so many parcels have 60
pub few_whole : (size count filled width left : ℕ) → 60 % size ≡ 0 → size * count + left ≡ filled + width → filled < size → width ≤ 60 → size * count ≤ 60
few_whole size count filled width left fills parts room short =
    let most : size * (60 / size) ≡ 60 = omega arith in
    elim (order_of count (60 / size + 1)) [
      | inl few ↦ let le : size * count ≤ size * (60 / size) = mul-le size count size (60 / size) (omega arith) (omega arith) in omega (arith, most, le)
      | inr many ↦
          let product : size * (60 / size + 1) ≡ size * (60 / size) + size = omega arith in
          let le : size * (60 / size + 1) ≤ size * count = mul-le size (60 / size + 1) size count (omega arith) many in
          absurd (omega (arith, most, le, product))
    ]

-- a field that makes the open parcel whole: all parcels that are whole are one span
pub field_whole : (size : ℕ) (old new : List Span) (next : OpenParcel) (field : Field) (count left joined last : ℕ) → IsOpen size next → field.bits < 2 ^ field.width → AreParted size next.filled field.width count left →
    joined ≡ next.bits * 2 ^ (field.width - left) + field.bits / 2 ^ left → last ≡ field.bits % 2 ^ left →
    new ≡ old ++ (let s : Span = record { place = next.place; count = count; bits = joined; is_instruction = field.is_instruction } in s) ∷ [] →
    IsPut size old next field new (record { place = next.place + count; filled = left; bits = last })
field_whole size old new next field count left joined last room fits h e f pushed =
    let i = field.is_instruction in
    let first = field.width - left in
    let high = field.bits / 2 ^ left in
    let low = field.bits % 2 ^ left in
    let both = next.bits * 2 ^ first + high in
    let inside = h.inside in
    let width : first + left ≡ field.width = omega arith in
    let high_below : high < 2 ^ first = shr_below field.bits first left (rw width fits) in
    let low_below : low < 2 ^ left = mod-lt field.bits (pow_pos left) in
    let space = room.has_room in
    let some : 0 < size = omega arith in
    let start : OpenRun = record { parcels = parcels_in size old; place = next.place; filled = 0; bits = 0 } in
    let opened : put_bits size i next.filled next.bits start ≡ run_of size old next =
    put_bits-within size i next.filled next.bits start room.bits_fit (omega arith)
    ∙ same_run (parcels_in size old) (parcels_in size old) next.place next.place (0 + next.filled) next.filled (0 * 2 ^ next.filled + next.bits) next.bits refl refl (omega arith) (omega arith) in
    let spans : OpenRun = record { parcels = parcels_in size old ++ span_parcels size (record { place = next.place; count = count; bits = both; is_instruction = i }); place = next.place + count; filled = 0; bits = 0 } in
    let front : put_bits size i first high (run_of size old next) ≡ spans =
    ap (λ r. put_bits size i first high r) (sym opened) ∙ sym (put_bits-joined size i next.filled first next.bits high start high_below)
    ∙ same_bits size i (next.filled + first) (size * count) both both start h.front refl
    ∙ put_bits-whole size i count both next.place (parcels_in size old) some (rw (← h.front) (joined_below next.bits high next.filled first room.bits_fit high_below)) in
    let product : size * (next.place + count) ≡ size * next.place + size * count = omega arith in
    record {
      run = sym (same_bits size i field.width (first + left) field.bits (high * 2 ^ left + low) (run_of size old next) (sym width) (sym (shr_split field.bits left))
          ∙ put_bits-joined size i first left high low (run_of size old next) low_below
          ∙ ap (λ r. put_bits size i left low r) front
          ∙ put_bits-within size i left low spans low_below (let short = h.short in omega arith)
          ∙ same_run (spans.parcels) (parcels_in size new) (next.place + count) (next.place + count) (0 + left) left (0 * 2 ^ left + low) last (rw (pushed, e) (sym (parcels_in-push size old _))) refl (omega arith) (omega (arith, f)));
      is_open = record { has_room = h.short; bits_fit = rw f low_below };
      end = omega (arith, product, h.parts);
    }
