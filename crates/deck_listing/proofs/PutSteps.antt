-- Fields put one behind the other, field by field.
use Rattle.std.proofs.{Common.{◌≡◌, ◌≢◌, ℕ, zero, suc, ◌+◌, ◌*◌, ◌/◌, ◌%◌, ◌^◌, ◌<◌, ◌≤◌, Bool, List, [], ◌∷◌, ◌++◌, refl, sym, ap, subst, ◌∙◌, arith, inl, inr}, Math.Nat.{mul-div_cancel_left, mul-mod_right}, lemmas.Nat.le-div, lemmas.Bool.Decides.eqb_tells}
use Rattle.definitions.specs.{StatementItems.Item, Words.{Linking, content_bits, cut, joined, parcels_from, width_of}}
use Rattle.parcel_packer.{specs.Joins.Packing.{OpenRun, DoItemsFit, end_bit, moved, put_bits, put_items}, proofs.PutLaws.{items_whole, put_bits-end}}
use Rattle.deck_listing.specs.Joins.Putting.{StandsAt, ArePut}

whole_parcels : (size n : ℕ) → 0 < size → n % size ≡ 0 → size * (n / size) ≡ n
whole_parcels size n some h = omega arith

not_zero : (n : ℕ) → n ≢ 0 → 0 < n
not_zero zero h = absurd (h refl)
not_zero (suc n) h = omega arith

-- the run that is moved to a place where it stands ends there
moved-ends : (size at_bit : ℕ) (run : OpenRun) → 0 < size → StandsAt size run at_bit → (end_bit size (moved size at_bit run) ≡ at_bit) × ((moved size at_bit run).filled < size)
moved-ends size at_bit run some stands = elim (eqb_tells run.filled 0) [
  | inl e ↦ let whole = whole_parcels size at_bit some (stands.begins.1 e.1) in rw e.0 (omega (arith, whole), some)
  | inr e ↦ rw e.0 (sym (stands.begins.2 (not_zero run.filled e.1)), stands.room)
]

same_run : (run : OpenRun) (p f : ℕ) → run.place ≡ p → run.filled ≡ f → run ≡ record { parcels = run.parcels; place = p; filled = f; bits = run.bits }
same_run run p f e h = rw (← e, ← h) refl

-- a run needs no move to where it ends
stays : (size at_bit : ℕ) (run : OpenRun) → 0 < size → end_bit size run ≡ at_bit → moved size at_bit run ≡ run
stays size at_bit run some h = elim (eqb_tells run.filled 0) [
  | inl e ↦ let f = e.1 in let here : size * run.place ≡ at_bit = omega arith in
      rw e.0 (sym (same_run run (at_bit / size) 0 (sym (mul-div_cancel_left run.place some) ∙ ap (λ n. n / size) here) f))
  | inr e ↦ rw e.0 refl
]

-- it stands where it ends
ends-stands : (size at_bit : ℕ) (run : OpenRun) → 0 < size → end_bit size run ≡ at_bit → run.filled < size → StandsAt size run at_bit
ends-stands size at_bit run some h room = record {
  begins = (omega arith, λ f. ap (λ n. n % size) (at_place f) ∙ mul-mod_right size run.place, λ _. sym h);
  room = room;
}
  where
    at_place : run.filled ≡ 0 → at_bit ≡ size * run.place
    at_place f = omega arith

-- one field, as it is put
pub put_one : (size : ℕ) (instruction : Bool) (linking : Linking) (old new : OpenRun) (from : ℕ) (item : Item) (bits : ℕ) → 0 < size → StandsAt size old from →
    bits ≡ content_bits linking item.width item.content → bits < 2 ^ item.width →
    new ≡ put_bits size instruction item.width bits (moved size from old) →
    ArePut size instruction linking old from (item ∷ []) new
put_one size instruction linking old new from item bits some stands is_content fits e =
    let begun = moved-ends size from old some stands in
    let ended = put_bits-end size instruction item.width bits (moved size from old) begun.1 in
    let after : end_bit size new ≡ from + (item.width + 0) = ap (end_bit size) e ∙ ended.0 ∙ (let start = begun.0 in omega arith) in
    let room : new.filled < size = let Has : OpenRun → Type 0 = λ r. r.filled < size in subst Has (sym e) ended.1 in
    record {
      run = stays size (from + (item.width + 0)) new some after ∙ e ∙ ap (λ n. put_bits size instruction item.width n (moved size from old)) is_content;
      stands = ends-stands size (from + (item.width + 0)) new some after room;
      fits = (subst (λ n. n < 2 ^ item.width) is_content fits, tt);
      none = λ h. cc;
    }

width-append : (xs ys : List Item) → width_of (xs ++ ys) ≡ width_of xs + width_of ys
width-append [] ys = omega arith
width-append (x ∷ xs) ys = let rest = width-append xs ys in omega arith

put_items-append : (size : ℕ) (instruction : Bool) (linking : Linking) (xs ys : List Item) (run : OpenRun) →
    put_items size instruction linking (xs ++ ys) run ≡ put_items size instruction linking ys (put_items size instruction linking xs run)
put_items-append size instruction linking [] ys run = refl
put_items-append size instruction linking (x ∷ xs) ys run = put_items-append size instruction linking xs ys (put_bits size instruction x.width (content_bits linking x.width x.content) run)

fits-append : (linking : Linking) (xs ys : List Item) → DoItemsFit linking xs → DoItemsFit linking ys → DoItemsFit linking (xs ++ ys)
fits-append linking [] ys h k = k
fits-append linking (x ∷ xs) ys h k = (h.0, fits-append linking xs ys h.1 k)

append_none : (xs : List Item) (item : Item) → xs ++ item ∷ [] ≡ [] → ⊥
append_none [] item h = cc
append_none (x ∷ xs) item h = cc

-- one field more
pub put_more : (size : ℕ) (instruction : Bool) (linking : Linking) (old middle new : OpenRun) (from at_bit : ℕ) (fields : List Item) (item : Item) → at_bit ≡ from + width_of fields →
    ArePut size instruction linking old from fields middle → ArePut size instruction linking middle at_bit (item ∷ []) new → ArePut size instruction linking old from (fields ++ item ∷ []) new
put_more size instruction linking old middle new from at_bit fields item e front last =
    let wider : at_bit + width_of (item ∷ []) ≡ from + width_of (fields ++ item ∷ []) = let both = width-append fields (item ∷ []) in omega arith in
    let Stands : ℕ → Type 0 = λ n. StandsAt size new n in
    record {
      run = ap (λ n. moved size n new) (sym wider) ∙ last.run ∙ ap (put_items size instruction linking (item ∷ [])) (ap (λ n. moved size n middle) e ∙ front.run)
          ∙ sym (put_items-append size instruction linking fields (item ∷ []) (moved size from old));
      stands = subst Stands wider last.stands;
      fits = fits-append linking fields (item ∷ []) front.fits last.fits;
      none = λ h. absurd (append_none fields item h);
    }

moved_fresh : (size place : ℕ) (run : OpenRun) → 0 < size → run.filled ≡ 0 → run.bits ≡ 0 → moved size (size * place) run ≡ record { parcels = run.parcels; place = place; filled = 0; bits = 0 }
moved_fresh size place run some f b = elim (eqb_tells run.filled 0) [
  | inl e ↦ rw e.0 (same (size * place / size) run.bits (mul-div_cancel_left place some) b)
  | inr e ↦ absurd (e.1 f)
]
  where
    same : (p c : ℕ) → p ≡ place → c ≡ 0 →
        (let r : OpenRun = record { parcels = run.parcels; place = p; filled = 0; bits = c } in r) ≡ record { parcels = run.parcels; place = place; filled = 0; bits = 0 }
    same p c e h = rw (e, h) refl

-- what is moved has the same parcels and bits
moved-parts : (size at_bit : ℕ) (run : OpenRun) → ((moved size at_bit run).parcels ≡ run.parcels) × ((moved size at_bit run).filled ≡ run.filled) × ((moved size at_bit run).bits ≡ run.bits)
moved-parts size at_bit run = elim (eqb_tells run.filled 0) [
  | inl e ↦ rw e.0 (refl, sym e.1, refl)
  | inr e ↦ rw e.0 (refl, refl, refl)
]

-- fields that fill whole parcels are their joined number cut
pub parcels_put : (size place count : ℕ) (instruction : Bool) (linking : Linking) (old new : OpenRun) (fields : List Item) → 0 < size → old.filled ≡ 0 → old.bits ≡ 0 →
    width_of fields ≡ size * count → ArePut size instruction linking old (size * place) fields new →
    (new.parcels ≡ old.parcels ++ parcels_from instruction place (cut size count (joined linking fields))) × (new.filled ≡ 0) × (new.bits ≡ 0) × (new.place ≤ place + count)
parcels_put size place count instruction linking old new fields some f b width put =
    let end = size * place + width_of fields in
    let fresh : OpenRun = record { parcels = old.parcels; place = place; filled = 0; bits = 0 } in
    let all = put.run ∙ ap (put_items size instruction linking fields) (moved_fresh size place old some f b) ∙ items_whole size instruction linking fields count fresh some refl refl width put.fits in
    let parts = moved-parts size end new in
    let reached = put.stands.begins.0 in
    let product : size * (place + count) ≡ size * place + size * count = omega arith in
    let turned : new.place * size ≤ size * (place + count) = omega (arith, reached, width, product) in (
      sym parts.0 ∙ ap (λ (r : OpenRun). r.parcels) all,
      sym parts.1 ∙ ap (λ (r : OpenRun). r.filled) all,
      sym parts.2 ∙ ap (λ (r : OpenRun). r.bits) all,
      subst (λ n. new.place ≤ n) (mul-div_cancel_left (place + count) some) (le-div new.place (size * (place + count)) size some turned),
    )
