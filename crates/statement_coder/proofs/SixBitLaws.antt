-- Items and displacements in 6 bits.
use Rattle.std.{proofs.Common.{◌≡◌, ℕ, ◌*◌, ◌^◌, ◌<◌, ◌≤◌, ◌&&◌, Bool, true, false, Option, Some, None, Result, Ok, length, refl, sym, ap, ◌∙◌, subst, arith, if◌then◌else◌, leb-true}, specs.Prelude.{unwrap_or, nat_le, ◌-ℤ◌}}
use Rattle.definitions.{specs.CountedItems.{CountedItem, bits_needed}, specs.Forms.{Form, is_absolute, characters_number}, specs.Coding.{coded, counted_item_in, counted_item_bits}, specs.Settled.Settled, specs.StatementItems.{Context, known, is_short, short_item, number_in, displacement_of}, specs.declared.letter.Letter.Letter, proofs.LiteralLaws.characters_number-below}
use Rattle.expr_forms.{specs.Joins.CodedItems.{in_places, is_at_end}, proofs.CodedLaws.{length-in_places, counted_item_bits-at_end, counted_item_bits-in_front}}

-- the bits of an item of one character
one-character : (item : CountedItem) (at_end : Bool) → length item.characters ≤ 1 → is_at_end item.letter ≡ at_end → counted_item_bits 6 item < 2 ^ 6
one-character item at_end few e =
    let below = characters_number-below (in_places 1 item) in
    let one = length-in_places 1 item few in
    let size : 2 ^ (6 * length (in_places 1 item)) ≡ 2 ^ 6 = ap (λ n. 2 ^ (6 * n)) one in
    case at_end e below size
  where
    case : (b : Bool) → is_at_end item.letter ≡ b → characters_number (in_places 1 item) < 2 ^ (6 * length (in_places 1 item)) → 2 ^ (6 * length (in_places 1 item)) ≡ 2 ^ 6 → counted_item_bits 6 item < 2 ^ 6
    case true e below size = let same = counted_item_bits-at_end 6 item few e in omega (arith, same, below, size)
    case false e below size = let same = counted_item_bits-in_front 6 item few e in omega (arith, same, below, size)

-- six bits hold what is placed in them
in-six : (item : CountedItem) (bits : ℕ) (room : Bool) → nat_le (bits_needed item) 6 ≡ room → (if room then Some (counted_item_bits 6 item) else None) ≡ Some bits → bits < 2 ^ 6
in-six item bits true e h =
    let room = leb-true (bits_needed item) 6 e in
    let few : length item.characters ≤ 1 = omega (arith, room) in
    subst (λ n. n < 2 ^ 6) (ap (λ (o : Option ℕ). unwrap_or o 0) h) (one-character item (is_at_end item.letter) few refl)
in-six item bits false e h = cc

pub counted_item_in-six : (item : CountedItem) (bits : ℕ) → counted_item_in 6 item ≡ Some bits → bits < 2 ^ 6
counted_item_in-six item bits h = in-six item bits (nat_le (bits_needed item) 6) refl h

-- from any value that is no displacement as it stands the location counter is taken
pub displaced : (context : Context) (statement : Settled) (value : Result Form Letter) (form location : Form) →
    value ≡ Ok form → (is_absolute form && is_short form.number) ≡ false → location ≡ statement.location →
    short_item (number_in context form -ℤ number_in context location) ≡ displacement_of context statement value
displaced context statement value form location v other l =
    ap (λ f. short_item (number_in context form -ℤ number_in context f)) l
    ∙ sym (
    ap (displacement_of context statement) v
    ∙ ap (λ (t : Bool). if t then known 6 (coded 6 form.number) else short_item (number_in context form -ℤ number_in context statement.location)) other
    )
