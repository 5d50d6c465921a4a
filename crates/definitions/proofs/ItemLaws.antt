-- Each field has the width that it was asked for, and room for what stands in it.
use Rattle.std.{proofs.Common.{◌≡◌, ℕ, ◌+◌, ◌^◌, ◌<◌, ◌≤◌, Bool, true, false, ◌&&◌, [], Option, None, Some, Result, Ok, Err, refl, arith}, specs.Prelude.{ℤ, pos, negsuc, ◌-ℤ◌, nat_le, if◌then◌else◌}, proofs.lemmas.Bool.leb-true}
use Rattle.definitions.{specs.Kinds.address_bits, specs.CountedItems.CountedItem, specs.Symbols.{Number, Value, TooGreat}, specs.Expressions.{Sign, Expression}, specs.Forms.{Form, is_absolute, value_of}, specs.Coding.{coded, coded_in, counted_item_in}, specs.Settled.Settled, specs.Literals.signed_number, specs.StatementItems.{Item, Linked, Context, known, faulty, known_if, number_in, linked_item, form_item, value_item, counted_item_or_value, whole_counted_item, expression_item, final_names, count_item, count_of, short_item, shift_of, displacement_of, is_short, number_item}, specs.declared.deck_kind.DeckKind.DeckKind, specs.declared.deck_kind.DeckKind.TheVariants.{Rel, Abs, Periph}, specs.declared.letter.Letter.Letter, proofs.WordLaws.{pow_positive, picked_cond}, specs.Laws.Filling.HasRoom, proofs.CodingLaws.{coded_in-below, counted_item_in-below, short_below}}
use Rattle.definitions.specs.declared.letter.Letter.TheVariants as letter

-- a field of so many bits that has room for what stands in it
abbrev pub IsField : ℕ → Item → Type 0
IsField width item = (item.width ≡ width) × HasRoom item.width item.content

-- a faulty field is 0
pub faulty-field : (width : ℕ) (fault : Letter) → IsField width (faulty width fault)
faulty-field width fault = (refl, pow_positive width)

-- a field of bits that are found, or of 0
known_if-field : (width : ℕ) (found : Option ℕ) → ((bits : ℕ) → found ≡ Some bits → bits < 2 ^ width) → IsField width (known_if width found)
known_if-field width None below = faulty-field width letter.A
known_if-field width (Some bits) below = (refl, below bits refl)

-- in a REL deck
linked_item-field : (width : ℕ) (form : Form) → width ≤ 60 → IsField width (linked_item width form)
linked_item-field width form most = picked_cond (IsField width) (is_absolute form) _ _
    (known_if-field width (coded_in width form.number) (coded_in-below width form.number))
    (step (nat_le address_bits width) refl)
  where
    step : (t : Bool) → nat_le address_bits width ≡ t → IsField width (if t then record { width = width; content = Linked form; letters = [] } else faulty width letter.R)
    step true e = (refl, (leb-true address_bits width e, most))
    step false e = faulty-field width letter.R

-- by the kind of the deck
form_item-field : (context : Context) (kind : DeckKind) (width : ℕ) (form : Form) → width ≤ 60 → IsField width (form_item context kind width form)
form_item-field context Rel width form most = linked_item-field width form most
form_item-field context Abs width form most = known_if-field width (coded_in width (number_in context form)) (coded_in-below width (number_in context form))
form_item-field context Periph width form most = known_if-field width (coded_in width (number_in context form)) (coded_in-below width (number_in context form))

value_item-field : (context : Context) (width : ℕ) (value : Result Form Letter) → width ≤ 60 → IsField width (value_item context width value)
value_item-field context width (Err fault) most = faulty-field width fault
value_item-field context width (Ok form) most = form_item-field context context.kind width form most

either-field : (context : Context) (settled : Settled) (width : ℕ) (e : Expression) (item : Option CountedItem) → width ≤ 60 → IsField width (counted_item_or_value context settled width e item)
either-field context settled width e None most = value_item-field context width (value_of (final_names context settled) e) most
either-field context settled width e (Some item) most = known_if-field width (counted_item_in width item) (counted_item_in-below width item)

-- an expression in a field
pub expression_item-field : (context : Context) (settled : Settled) (width : ℕ) (e : Expression) → width ≤ 60 → IsField width (expression_item context settled width e)
expression_item-field context settled width e most = either-field context settled width e (whole_counted_item e.sign e.terms) most

count_item-field : (n : ℤ) → IsField 6 (count_item n)
count_item-field (pos n) = step (nat_le n 63) refl
  where
    step : (t : Bool) → nat_le n 63 ≡ t → IsField 6 (if t then known 6 n else faulty 6 letter.A)
    step true e = (refl, let small : n ≤ 63 = leb-true n 63 e in omega arith)
    step false e = faulty-field 6 letter.A
count_item-field (negsuc n) = picked_cond (IsField 6) (nat_le (n + 1) 60) _ _ (refl, omega arith) (faulty-field 6 letter.A)

-- the count of LX, AX and MX
pub count_of-field : (value : Result Form Letter) → IsField 6 (count_of value)
count_of-field (Err fault) = faulty-field 6 fault
count_of-field (Ok form) = picked_cond (IsField 6) (is_absolute form) _ _ (count_item-field form.number) (faulty-field 6 letter.R)

short_item-field : (n : ℤ) → IsField 6 (short_item n)
short_item-field n = step (is_short n) refl
  where
    step : (t : Bool) → is_short n ≡ t → IsField 6 (if t then known 6 (coded 6 n) else faulty 6 letter.A)
    step true e = (refl, short_below n e)
    step false e = faulty-field 6 letter.A

-- the count of SHN
pub shift_of-field : (context : Context) (value : Result Form Letter) → IsField 6 (shift_of context value)
shift_of-field context (Err fault) = faulty-field 6 fault
shift_of-field context (Ok form) = short_item-field (number_in context form)

-- the displacement of a jump
pub displacement_of-field : (context : Context) (settled : Settled) (value : Result Form Letter) → IsField 6 (displacement_of context settled value)
displacement_of-field context settled (Err fault) = faulty-field 6 fault
displacement_of-field context settled (Ok form) = step (is_absolute form) (is_short form.number) refl
  where
    step : (s t : Bool) → is_short form.number ≡ t →
        IsField 6 (if s && t then known 6 (coded 6 form.number) else short_item (number_in context form -ℤ number_in context settled.location))
    step true true e = (refl, short_below form.number e)
    step true false e = short_item-field (number_in context form -ℤ number_in context settled.location)
    step false t e = short_item-field (number_in context form -ℤ number_in context settled.location)

-- a signed number in a field
pub number_item-field : (width : ℕ) (sign : Sign) (number : Number) → IsField width (number_item width sign number)
number_item-field width sign (Value n) = known_if-field width (coded_in width (signed_number sign n)) (coded_in-below width (signed_number sign n))
number_item-field width sign TooGreat = faulty-field width letter.A
