-- A statement whose elements are bound alike in two decks of one kind has the same letters and the same fields in both.
use Rattle.std.{proofs.Common.{◌≡◌, ℕ, List, [], ◌∷◌, ◌++◌, Option, Some, None, refl, ap, ap₂, ◌∙◌}, specs.Prelude.{false, Result, Ok, Err, ◌*◌, pos, neg_ℤ, ◌+ℤ◌, ◌-ℤ◌, nat_le, ◌&&◌, map, flat_map, ok_or, if◌then◌else◌}, specs.List.AllByRecursion}
use Rattle.definitions.{specs.CountedItems.CountedItem, specs.Expressions.{Element, ASymbol, Expression, elements_of}, specs.Forms.{Block, External, Part, Added, Subtracted, Form, is_absolute, element_form, value_of}, specs.Coding.{coded, coded_in, counted_item_in}, specs.PeripheralTable.{PeripheralForm, Ignored, Short, ShortJump, Shift, Wide, Long}, specs.Matching.{Field, NoField, OfK, OfN}, specs.Operations.Operation, specs.Operands.{Operand, CentralOperand, PeripheralOperand, WordsOperand, BitsOperand, NamesOperand, Datum, ZeroWord, NumberWord, CountedItemWords, ExpressionWord, BitField}, specs.Kinds.{word_bits, address_bits}, specs.Settled.{Settled, defined}, specs.Laws.Agreement.{unnumbered, lawful_names}, specs.StatementItems.{Item, Context, final_names, part_value, number_in, counted_item_value, known_if, form_item, value_item, whole_counted_item, counted_item_or_value, expression_item, small_value, count_of, short_item, is_short, known, shift_of, displacement_of, instruction_items, second_value, peripheral_items, datum_item, vfd_value, zeros_to_word, operand_items, items_of}, specs.Lengths.base_in, specs.Sizes.bits_of, specs.Letters.{name_fault, entry_letters, letters_of}, specs.Entries.entry_fault, specs.Laws.Rebound.{field_elements, datum_elements, value_elements, form_elements, coded_elements, is_rebound}, specs.declared.deck_kind.DeckKind.DeckKind, specs.declared.deck_kind.DeckKind.TheVariants.{Rel, Abs, Periph}, specs.declared.letter.Letter.Letter, proofs.NamesLaws.{all-front, all-behind, Alike, value_of-alike, OfPart, OfValue, value_of-of}, proofs.BoundLaws.{Stands, IsBound, all-bound}}
use Rattle.definitions.specs.Operations as op
use Rattle.definitions.specs.declared.letter.Letter.TheVariants as letter

-- all of these are bound alike
abbrev AreBound : Context → Context → Settled → List Element → Type 0
AreBound old new settled elements = AllByRecursion (IsBound old new settled) elements

bound-alike : (old new : Context) (settled : Settled) (elements : List Element) → AreBound old new settled elements → Alike (final_names old settled) (final_names new settled) elements
bound-alike old new settled [] h = tt
bound-alike old new settled (element ∷ elements) h = (h.0.alike, bound-alike old new settled elements h.1)

bound-stand : (old new : Context) (settled : Settled) (elements : List Element) → AreBound old new settled elements →
    AllByRecursion (λ element. OfValue (Stands old new) (element_form (final_names old settled) element)) elements
bound-stand old new settled [] h = tt
bound-stand old new settled (element ∷ elements) h = (h.0.stands, bound-stand old new settled elements h.1)

-- a context of this kind
abbrev at_kind : DeckKind → Context → Context
at_kind kind context = record { kind = kind; settled = context.settled; rows = context.rows; literals = context.literals }

-- the number that a form is where its block stands
number-same : (old new : Context) (form : Form) → OfPart (Stands old new) form.part → number_in old form ≡ number_in new form
number-same old new form h = ap (λ value. form.number +ℤ value) (by form.part h)
  where
    by : (part : Option Part) → OfPart (Stands old new) part →
        part_value (λ name. pos (base_in name old.rows)) (λ name. pos 0) part ≡ part_value (λ name. pos (base_in name new.rows)) (λ name. pos 0) part
    by None h = refl
    by (Some (Added (Block name))) h = ap pos h
    by (Some (Added (External name))) h = refl
    by (Some (Subtracted (Block name))) h = ap (λ base. neg_ℤ (pos base)) h
    by (Some (Subtracted (External name))) h = refl

-- the field of a form, and of a value
form_item-same : (old new : Context) (kind : DeckKind) (width : ℕ) (form : Form) → OfPart (Stands old new) form.part → form_item old kind width form ≡ form_item new kind width form
form_item-same old new Rel width form h = refl
form_item-same old new Abs width form h = ap (λ number. known_if width (coded_in width number)) (number-same old new form h)
form_item-same old new Periph width form h = ap (λ number. known_if width (coded_in width number)) (number-same old new form h)

value_item-same : (kind : DeckKind) (old new : Context) (width : ℕ) (value : Result Form Letter) → OfValue (Stands old new) value →
    value_item (at_kind kind old) width value ≡ value_item (at_kind kind new) width value
value_item-same kind old new width (Err fault) h = refl
value_item-same kind old new width (Ok form) h = form_item-same (at_kind kind old) (at_kind kind new) kind width form h

-- the value of an expression
value-same : (old new : Context) (settled : Settled) (e : Expression) → AreBound old new settled (elements_of e) → value_of (final_names old settled) e ≡ value_of (final_names new settled) e
value-same old new settled e h = value_of-alike (final_names old settled) (final_names new settled) e (bound-alike old new settled (elements_of e) h)

value-stands : (old new : Context) (settled : Settled) (e : Expression) → AreBound old new settled (elements_of e) → OfValue (Stands old new) (value_of (final_names old settled) e)
value-stands old new settled e h = value_of-of (Stands old new) (final_names old settled) e (bound-stand old new settled (elements_of e) h)

-- its field
expression_item-same : (kind : DeckKind) (old new : Context) (settled : Settled) (width : ℕ) (e : Expression) → AreBound old new settled (elements_of e) →
    expression_item (at_kind kind old) settled width e ≡ expression_item (at_kind kind new) settled width e
expression_item-same kind old new settled width e h = by (whole_counted_item e.sign e.terms)
  where
    by : (item : Option CountedItem) → counted_item_or_value (at_kind kind old) settled width e item ≡ counted_item_or_value (at_kind kind new) settled width e item
    by None =
        value_item-same kind old new width (value_of (final_names old settled) e) (value-stands old new settled e h)
        ∙ ap (value_item (at_kind kind new) width) (value-same old new settled e h)
    by (Some item) = refl

-- a value in 6 bits, and where it stands
small_value-same : (old new : Context) (settled : Settled) (e : Expression) (item : Option CountedItem) → AreBound old new settled (elements_of e) →
    small_value old settled e item ≡ small_value new settled e item
small_value-same old new settled e None h = value-same old new settled e h
small_value-same old new settled e (Some item) h = refl

small_value-stands : (old new : Context) (settled : Settled) (e : Expression) (item : Option CountedItem) → AreBound old new settled (elements_of e) →
    OfValue (Stands old new) (small_value old settled e item)
small_value-stands old new settled e None h = value-stands old new settled e h
small_value-stands old new settled e (Some item) h = by (counted_item_in 6 item)
  where
    by : (bits : Option ℕ) → OfValue (Stands old new) (counted_item_value bits)
    by None = tt
    by (Some bits) = tt

shift_of-same : (old new : Context) (value : Result Form Letter) → OfValue (Stands old new) value → shift_of old value ≡ shift_of new value
shift_of-same old new (Err fault) h = refl
shift_of-same old new (Ok form) h = ap short_item (number-same old new form h)

displacement_of-same : (old new : Context) (settled : Settled) (value : Result Form Letter) → OfValue (Stands old new) value → OfPart (Stands old new) settled.location.part →
    displacement_of old settled value ≡ displacement_of new settled value
displacement_of-same old new settled (Err fault) h k = refl
displacement_of-same old new settled (Ok form) h k =
    ap₂ (λ a b. if is_absolute form && is_short form.number then known 6 (coded 6 form.number) else short_item (a -ℤ b))
    (number-same old new form h) (number-same old new settled.location k)

instruction_items-same : (kind : DeckKind) (old new : Context) (settled : Settled) (field : Field) → AreBound old new settled (field_elements field) →
    instruction_items (at_kind kind old) settled field ≡ instruction_items (at_kind kind new) settled field
instruction_items-same kind old new settled NoField h = refl
instruction_items-same kind old new settled (OfK e) h = ap (λ item. item ∷ []) (expression_item-same kind old new settled address_bits e h)
instruction_items-same kind old new settled (OfN e) h = ap (λ value. count_of value ∷ []) (small_value-same old new settled e (whole_counted_item e.sign e.terms) h)

-- the elements of expressions
abbrev values_elements : List Expression → List Element
values_elements values = flat_map elements_of values

first-bound : (old new : Context) (settled : Settled) (e : Expression) (others : List Expression) → AreBound old new settled (values_elements (e ∷ others)) → AreBound old new settled (elements_of e)
first-bound old new settled e others h = all-front (IsBound old new settled) (elements_of e) (values_elements others) h

second_value-same : (kind : DeckKind) (old new : Context) (settled : Settled) (values : List Expression) → AreBound old new settled (values_elements values) →
    second_value (at_kind kind old) settled values ≡ second_value (at_kind kind new) settled values
second_value-same kind old new settled [] h = refl
second_value-same kind old new settled (d ∷ others) h = expression_item-same kind old new settled 6 d (first-bound old new settled d others h)

peripheral_items-same : (kind : DeckKind) (old new : Context) (settled : Settled) (form : PeripheralForm) (values : List Expression) →
    AreBound old new settled (form_elements form ++ values_elements values) →
    peripheral_items (at_kind kind old) settled form values ≡ peripheral_items (at_kind kind new) settled form values
peripheral_items-same kind old new settled Short (d ∷ others) h = ap (λ item. item ∷ []) (expression_item-same kind old new settled 6 d (first-bound old new settled d others h))
peripheral_items-same kind old new settled ShortJump (d ∷ others) h =
    let item = whole_counted_item d.sign d.terms in
    let bound = first-bound old new settled d others h.1 in
    ap (λ field. field ∷ []) (
    displacement_of-same (at_kind kind old) (at_kind kind new) settled (small_value old settled d item) (small_value-stands old new settled d item bound) h.0.stands
    ∙ ap (displacement_of (at_kind kind new) settled) (small_value-same old new settled d item bound)
    )
peripheral_items-same kind old new settled Shift (d ∷ others) h =
    let item = whole_counted_item d.sign d.terms in
    let bound = first-bound old new settled d others h in
    ap (λ field. field ∷ []) (
    shift_of-same (at_kind kind old) (at_kind kind new) (small_value old settled d item) (small_value-stands old new settled d item bound)
    ∙ ap (shift_of (at_kind kind new)) (small_value-same old new settled d item bound)
    )
peripheral_items-same kind old new settled Wide (c ∷ others) h = ap (λ item. item ∷ []) (expression_item-same kind old new settled address_bits c (first-bound old new settled c others h))
peripheral_items-same kind old new settled Long (m ∷ others) h =
    ap₂ (λ (d c : Item). d ∷ c ∷ []) (second_value-same kind old new settled others (all-behind (IsBound old new settled) (elements_of m) (values_elements others) h))
    (expression_item-same kind old new settled 12 m (first-bound old new settled m others h))
peripheral_items-same kind old new settled Ignored values h = refl
peripheral_items-same kind old new settled Short [] h = refl
peripheral_items-same kind old new settled ShortJump [] h = refl
peripheral_items-same kind old new settled Shift [] h = refl
peripheral_items-same kind old new settled Wide [] h = refl
peripheral_items-same kind old new settled Long [] h = refl

datum_item-same : (kind : DeckKind) (old new : Context) (settled : Settled) (datum : Datum) → AreBound old new settled (datum_elements datum) →
    datum_item (at_kind kind old) settled datum ≡ datum_item (at_kind kind new) settled datum
datum_item-same kind old new settled ZeroWord h = refl
datum_item-same kind old new settled (NumberWord sign number) h = refl
datum_item-same kind old new settled (CountedItemWords item) h = refl
datum_item-same kind old new settled (ExpressionWord e) h = expression_item-same kind old new settled (word_bits kind) e h

data-same : (kind : DeckKind) (old new : Context) (settled : Settled) (data' : List Datum) → AreBound old new settled (flat_map datum_elements data') →
    map (datum_item (at_kind kind old) settled) data' ≡ map (datum_item (at_kind kind new) settled) data'
data-same kind old new settled [] h = refl
data-same kind old new settled (datum ∷ others) h =
    ap₂ (λ (item : Item) items. item ∷ items) (datum_item-same kind old new settled datum (all-front (IsBound old new settled) (datum_elements datum) (flat_map datum_elements others) h))
    (data-same kind old new settled others (all-behind (IsBound old new settled) (datum_elements datum) (flat_map datum_elements others) h))

vfd_value-same : (kind : DeckKind) (old new : Context) (settled : Settled) (width : ℕ) (value : Option Expression) → AreBound old new settled (value_elements value) →
    vfd_value (at_kind kind old) settled width value ≡ vfd_value (at_kind kind new) settled width value
vfd_value-same kind old new settled width None h = refl
vfd_value-same kind old new settled width (Some e) h = expression_item-same kind old new settled width e h

-- the elements of the fields of a VFD
abbrev fields_elements : List BitField → List Element
fields_elements fields = flat_map (λ (field : BitField). value_elements field.value) fields

fields-same : (kind : DeckKind) (old new : Context) (settled : Settled) (fields : List BitField) → AreBound old new settled (fields_elements fields) →
    map (λ (field : BitField). vfd_value (at_kind kind old) settled field.width field.value) fields ≡ map (λ (field : BitField). vfd_value (at_kind kind new) settled field.width field.value) fields
fields-same kind old new settled [] h = refl
fields-same kind old new settled (field ∷ others) h =
    ap₂ (λ (item : Item) items. item ∷ items) (vfd_value-same kind old new settled field.width field.value (all-front (IsBound old new settled) (value_elements field.value) (fields_elements others) h))
    (fields-same kind old new settled others (all-behind (IsBound old new settled) (value_elements field.value) (fields_elements others) h))

-- the fields of an operand
operand_items-same : (kind : DeckKind) (old new : Context) (settled : Settled) (operation : Operation) (operand : Operand) → AreBound old new settled (coded_elements operation operand) →
    operand_items (at_kind kind old) settled operand ≡ operand_items (at_kind kind new) settled operand
operand_items-same kind old new settled operation (CentralOperand instruction) h =
    ap (λ items. known (3 * instruction.count) instruction.digits ∷ items) (instruction_items-same kind old new settled instruction.field h)
operand_items-same kind old new settled operation (PeripheralOperand row values) h = ap (λ items. known 6 row.code ∷ items) (peripheral_items-same kind old new settled row.form values h)
operand_items-same kind old new settled operation (WordsOperand data') h = data-same kind old new settled data' h
operand_items-same kind old new settled operation (BitsOperand fields) h = ap (λ items. items ++ zeros_to_word (word_bits kind) (bits_of fields) ∷ []) (fields-same kind old new settled fields h)
operand_items-same kind old new settled operation operand h = refl

-- the letters of a name that ENTRY reads
name-same : (a b : Option Form) → ok_or a letter.U ≡ ok_or b letter.U → entry_fault a ≡ entry_fault b
name-same None None e = refl
name-same (Some a) (Some b) e = let same : a ≡ b = cc in ap (λ form. entry_fault (Some form)) same
name-same None (Some b) e = cc
name-same (Some a) None e = cc

names-same : (old new : Context) (settled : Settled) (names : List (Option (List ℕ))) → AreBound old new settled (map ASymbol (lawful_names names)) →
    flat_map (name_fault old.settled) names ≡ flat_map (name_fault new.settled) names
names-same old new settled [] h = refl
names-same old new settled (None ∷ names) h = ap (λ letters. letter.V ∷ letters) (names-same old new settled names h)
names-same old new settled (Some name ∷ names) h =
    ap₂ (λ (first others : List Letter). first ++ others) (name-same (defined name old.settled) (defined name new.settled) h.0.alike) (names-same old new settled names h.1)

entry_letters-same : (kind : DeckKind) (old new : Context) (settled : Settled) (operation : Operation) (operand : Operand) → AreBound old new settled (coded_elements operation operand) →
    entry_letters kind old.settled operation operand ≡ entry_letters kind new.settled operation operand
entry_letters-same Periph old new settled operation operand h = refl
entry_letters-same Rel old new settled op.Entry (NamesOperand names) h = names-same old new settled names h
entry_letters-same Abs old new settled op.Entry (NamesOperand names) h = names-same old new settled names h
entry_letters-same Rel old new settled op.Entry operand h = refl
entry_letters-same Abs old new settled op.Entry operand h = refl
entry_letters-same Rel old new settled operation operand h = refl
entry_letters-same Abs old new settled operation operand h = refl

-- a context is one of its own kind, and of each kind that is the same
moved : (old new : Context) → old.kind ≡ new.kind → old ≡ at_kind new.kind old
moved old new e = ap (λ kind. at_kind kind old) e

-- what coding reads of a statement is bound alike
bound : (old new : Context) (settled : Settled) → is_rebound old new settled ≡ false → AreBound old new settled (coded_elements settled.read.operation settled.read.operand)
bound old new settled e = all-bound old new settled (coded_elements settled.read.operation settled.read.operand) e

-- the letters of one settled statement
letters-same : (old new : Context) (settled : Settled) → old.kind ≡ new.kind → is_rebound old new settled ≡ false → letters_of old settled ≡ letters_of new settled
letters-same old new settled k e =
    let operation = settled.read.operation in
    let operand = settled.read.operand in
    let h = bound old new settled e in
    ap (λ context. letters_of context settled) (moved old new k)
    ∙ ap₂ (λ (entries : List Letter) (items : List Item). settled.letters ++ (entries ++ flat_map (λ (bits : Item). bits.letters) items))
    (entry_letters-same new.kind old new settled operation operand h) (operand_items-same new.kind old new settled operation operand h)

-- its fields
fields_of-same : (kind : DeckKind) (old new : Context) (settled : Settled) (operation : Operation) → operand_items (at_kind kind old) settled settled.read.operand ≡ operand_items (at_kind kind new) settled settled.read.operand →
    items_of (at_kind kind old) settled operation ≡ items_of (at_kind kind new) settled operation
fields_of-same kind old new settled op.Bssz h = refl
fields_of-same kind old new settled operation h = ap (λ (items : List Item). if nat_le settled.end settled.place then [] else items) h

items-same : (old new : Context) (settled : Settled) → old.kind ≡ new.kind → is_rebound old new settled ≡ false → items_of old settled settled.read.operation ≡ items_of new settled settled.read.operation
items-same old new settled k e =
    ap (λ context. items_of context settled settled.read.operation) (moved old new k)
    ∙ fields_of-same new.kind old new settled settled.read.operation (operand_items-same new.kind old new settled settled.read.operation settled.read.operand (bound old new settled e))

-- the number of cards before a statement is in neither
pub letters-enough : (old new : Context) (settled other : Settled) → old.kind ≡ new.kind → unnumbered settled ≡ unnumbered other → is_rebound old new other ≡ false → letters_of old settled ≡ letters_of new other
letters-enough old new settled other k same e = ap (letters_of old) same ∙ letters-same old new other k e

pub fields-enough : (old new : Context) (settled other : Settled) → old.kind ≡ new.kind → unnumbered settled ≡ unnumbered other → is_rebound old new other ≡ false →
    items_of old settled settled.read.operation ≡ items_of new other other.read.operation
fields-enough old new settled other k same e = ap (λ (plain : Settled). items_of old plain plain.read.operation) same ∙ items-same old new other k e
