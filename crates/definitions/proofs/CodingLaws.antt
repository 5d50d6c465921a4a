-- Values and counted items have room in their fields.
use Rattle.std.{proofs.Common.{◌≡◌, ℕ, ◌*◌, ◌/◌, ◌^◌, ◌<◌, ◌≤◌, Bool, true, false, None, Some, refl, subst, arith}, specs.Prelude.{ℤ, pos, negsuc, nat_le, unsigned_abs, if◌then◌else◌}, proofs.lemmas.Bool.leb-true}
use Rattle.definitions.{specs.CountedItems.{CountedItem, bits_needed}, specs.Coding.{fits, coded, coded_in, counted_item_in, counted_item_bits}, proofs.LiteralLaws.{coded-below, counted_item_bits-below, needed_more}}

-- bits that are found for a value are below the power of the field
pub coded_in-below : (width : ℕ) (value : ℤ) (bits : ℕ) → coded_in width value ≡ Some bits → bits < 2 ^ width
coded_in-below width value bits e = step (fits width value) refl e
  where
    step : (t : Bool) → fits width value ≡ t → (if t then Some (coded width value) else None) ≡ Some bits → bits < 2 ^ width
    step true is e = let same : coded width value ≡ bits = cc in subst (λ n. n < 2 ^ width) same (coded-below width value is)
    step false is e = cc

-- bits that are found for an item are below the power of the field
pub counted_item_in-below : (width : ℕ) (item : CountedItem) (bits : ℕ) → counted_item_in width item ≡ Some bits → bits < 2 ^ width
counted_item_in-below width item bits e = step (nat_le (bits_needed item) (6 * (width / 6))) refl e
  where
    step : (t : Bool) → nat_le (bits_needed item) (6 * (width / 6)) ≡ t → (if t then Some (counted_item_bits width item) else None) ≡ Some bits → bits < 2 ^ width
    step true is e =
        let same : counted_item_bits width item ≡ bits = cc in
        let room : bits_needed item ≤ 6 * (width / 6) = leb-true (bits_needed item) (6 * (width / 6)) is in
        let needed = needed_more item in
        subst (λ n. n < 2 ^ width) same (counted_item_bits-below width item (omega arith))
    step false is e = cc

-- a number from -31 to 31 in 6 bits
pub short_below : (n : ℤ) → nat_le (unsigned_abs n) 31 ≡ true → coded 6 n < 2 ^ 6
short_below (pos n) e = let small : n ≤ 31 = leb-true n 31 e in omega arith
short_below (negsuc n) e = omega arith
