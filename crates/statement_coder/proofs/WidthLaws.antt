-- How wide fields are.
use Rattle.std.{proofs.Common.{◌≡◌, ℕ, Bool, true, false, [], Option, Some, None, Result, Ok, Err, refl, if◌then◌else◌}, specs.Prelude.nat_le}
use Rattle.definitions.specs.{CountedItems.CountedItem, Expressions.{Expression}, Forms.{Form, is_absolute, value_of}, Coding.{coded_in, counted_item_in}, Kinds.address_bits, Settled.Settled, StatementItems.{Item, Linked, Context, faulty, known_if, linked_item, form_item, value_item, whole_counted_item, counted_item_or_value, expression_item, final_names, number_in}, declared.deck_kind.DeckKind.DeckKind, declared.deck_kind.DeckKind.TheVariants.{Rel, Abs, Periph}, declared.letter.Letter.Letter}
use Rattle.definitions.specs.declared.letter.Letter.TheVariants as letter

-- both fields of a choice have this width
width-cond : (b : Bool) (x y : Item) (width : ℕ) → x.width ≡ width → y.width ≡ width → (if b then x else y).width ≡ width
width-cond true x y width e f = e
width-cond false x y width e f = f

pub width-known_if : (width : ℕ) (bits : Option ℕ) → (known_if width bits).width ≡ width
width-known_if width None = refl
width-known_if width (Some bits) = refl

width-linked_item : (width : ℕ) (form : Form) → (linked_item width form).width ≡ width
width-linked_item width form =
    width-cond (is_absolute form) _ _ width (width-known_if width (coded_in width form.number))
    (width-cond (nat_le address_bits width) (record { width = width; content = Linked form; letters = [] }) (faulty width letter.R) width refl refl)

width-form_item : (context : Context) (kind : DeckKind) (width : ℕ) (form : Form) → (form_item context kind width form).width ≡ width
width-form_item context Rel width form = width-linked_item width form
width-form_item context Abs width form = width-known_if width (coded_in width (number_in context form))
width-form_item context Periph width form = width-known_if width (coded_in width (number_in context form))

width-value_item : (context : Context) (width : ℕ) (value : Result Form Letter) → (value_item context width value).width ≡ width
width-value_item context width (Err fault) = refl
width-value_item context width (Ok form) = width-form_item context context.kind width form

width-either : (context : Context) (settled : Settled) (width : ℕ) (e : Expression) (item : Option CountedItem) → (counted_item_or_value context settled width e item).width ≡ width
width-either context settled width e None = width-value_item context width (value_of (final_names context settled) e)
width-either context settled width e (Some item) = width-known_if width (counted_item_in width item)

-- an expression has the width of its field
pub width-expression_item : (context : Context) (settled : Settled) (width : ℕ) (e : Expression) → (expression_item context settled width e).width ≡ width
width-expression_item context settled width e = width-either context settled width e (whole_counted_item e.sign e.terms)
