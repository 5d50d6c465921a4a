-- The test of what a statement reads shows whether it is bound otherwise.
use Rattle.std.{proofs.Common.{◌≡◌, ◌∙◌, ℕ, Bool, true, false, not, ◌||◌, List, [], ◌∷◌, ◌++◌, Option, Some, None, flat_map, refl, ap, ap₂, sym}, specs.Prelude.{Result, Ok, Err, ◌&&◌, pos, length, nat_le, if◌then◌else◌}, specs.List.list_any, proofs.lemmas.Bool.Decides.Decides-int_eq}
use Rattle.definitions.specs.{CountedItems.CountedItem, Expressions.{Element, Expression, elements_of, LocationCounter}, Forms.{Form, Names, absolute, characters_number, number_form, counted_item_form, element_form}, Lengths.BlockRow, Literals.literal_form, Operands.Operand, Operations.Operation, PeripheralTable.PeripheralForm, Laws.Rebound.{field_elements, form_elements, value_elements, coded_elements, same_value, bound_alike, is_rebound}, Settled.Settled, StatementItems.{Context, final_names}, Symbols.{Number, Value, TooGreat}, declared.letter.Letter.Letter}
use Rattle.definitions.specs.Matching as matching
use Rattle.definitions.specs.Operands as operands
use Rattle.definitions.specs.declared.letter.Letter.TheVariants as letter
use Rattle.expr_forms.specs.{Joins.Shapes.{field_as, instruction_with, long_values, HasForm}, declared.shapes.Shape.Shape, Joins.Readings.use_as}
use Rattle.expr_forms.specs.declared.shapes.Field as code
use Rattle.expr_forms.specs.declared.shapes.Field.TheVariants as field
use Rattle.statement_coder.specs.{Joins.ReadOperands.IsReadOperand, Joins.Readings.{IsReading, IsInstruction}, declared.read_operands.ReadOperand.ReadOperand}
use Rattle.statement_coder.specs.declared.readings.Reading as readings
use Rattle.statement_coder.specs.declared.readings.Reading.TheVariants as reading
use Rattle.expr_forms.specs.declared.use_fields.UseField as uses
use Rattle.expr_forms.specs.declared.use_fields.UseField.TheVariants as use_field
use Rattle.operations.specs.Joins.OperationsAs.{operation_as}
use Rattle.deck_assembler.{specs.Joins.Rebindings.{names_in, context_at, differs, shape_elements, reading_elements, AreBindings, IsRebinding}, specs.declared.rebinding.Bindings.Bindings, specs.declared.rebinding.Rebinding.Rebinding, proofs.OntoLaws.append-none}

-- an absolute number is itself in both decks
absolute-same : (old new : Context) (n : ℕ) → same_value old new (Ok (absolute (pos n))) (Ok (absolute (pos n))) ≡ true
absolute-same old new n = ap (λ b. b && true) ((Decides-int_eq (pos n) (pos n)).1 refl)

pub number-same : (old new : Context) (number : Number) → same_value old new (number_form number) (number_form number) ≡ true
number-same old new (Value n) = absolute-same old new n
number-same old new TooGreat = refl

pub item-same : (old new : Context) (item : CountedItem) → same_value old new (counted_item_form item) (counted_item_form item) ≡ true
item-same old new item = by (nat_le (length item.characters) 10)
  where
    by : (b : Bool) → let form : Result Form Letter = if b then Ok (absolute (pos (characters_number item.characters))) else Err letter.A in same_value old new form form ≡ true
    by true = absolute-same old new (characters_number item.characters)
    by false = refl

-- what a central instruction reads, if there is one
abbrev elements_if : Option matching.Instruction → List Element
elements_if None = []
elements_if (Some instruction) = field_elements instruction.field

central-elements : (digits count : ℕ) (given : code.Field) (instruction : matching.Instruction) → instruction_with digits count (field_as given) ≡ Some instruction → field_elements instruction.field ≡ shape_elements given
central-elements digits count field.Absent instruction e = sym (ap elements_if e)
central-elements digits count (field.Address k) instruction e = sym (ap elements_if e)
central-elements digits count (field.Count k) instruction e = sym (ap elements_if e)
central-elements digits count field.Zero instruction e = cc
central-elements digits count (field.Short d) instruction e = cc
central-elements digits count (field.Displacement d) instruction e = cc
central-elements digits count (field.Shift d) instruction e = cc
central-elements digits count (field.Wide d) instruction e = cc
central-elements digits count (field.Long m d) instruction e = cc

-- what a peripheral instruction reads
abbrev peripheral_elements : PeripheralForm → List Expression → List Element
peripheral_elements form values = form_elements form ++ flat_map elements_of values

long-elements : (m : Expression) (d : Option Expression) → flat_map elements_of (long_values m d) ≡ elements_of m ++ value_elements d
long-elements m None = refl
long-elements m (Some d) = ap (λ l. elements_of m ++ l) (append-none (elements_of d))

has-elements : (given : code.Field) (form : PeripheralForm) (values : List Expression) → HasForm given form values → peripheral_elements form values ≡ shape_elements given
has-elements field.Zero form values h = ap₂ peripheral_elements h.0 h.1
has-elements (field.Short d) form values h = ap₂ peripheral_elements h.0 h.1 ∙ append-none (elements_of d)
has-elements (field.Displacement d) form values h = ap₂ peripheral_elements h.0 h.1 ∙ ap (λ l. LocationCounter ∷ l) (append-none (elements_of d))
has-elements (field.Shift d) form values h = ap₂ peripheral_elements h.0 h.1 ∙ append-none (elements_of d)
has-elements (field.Wide d) form values h = ap₂ peripheral_elements h.0 h.1 ∙ append-none (elements_of d)
has-elements (field.Long m d) form values h = ap₂ peripheral_elements h.0 h.1 ∙ long-elements m d
has-elements field.Absent form values h = absurd h
has-elements (field.Address k) form values h = absurd h
has-elements (field.Count k) form values h = absurd h

instruction-elements : (operation : Operation) (shape : Shape) (operand : Operand) → IsInstruction shape operand → coded_elements operation operand ≡ shape_elements shape.field
instruction-elements operation shape (operands.CentralOperand instruction) is = central-elements shape.digits shape.digit_count shape.field instruction is
instruction-elements operation shape (operands.PeripheralOperand row values) is = has-elements shape.field row.form values is.2
instruction-elements operation shape _ is = absurd is

use-elements : (operation : Operation) (given : uses.UseField) → coded_elements operation (use_as given) ≡ []
use-elements operation (use_field.UseName name) = refl
use-elements operation use_field.UseBefore = refl
use-elements operation use_field.Refused = refl
use-elements operation use_field.Bad = refl

-- what coding reads is what was read of it
reading-elements : (operation : Operation) (given : readings.Reading) (operand : Operand) → IsReading given operand → coded_elements operation operand ≡ reading_elements operation given
reading-elements operation (reading.Instruction shape) operand is = instruction-elements operation shape operand is
reading-elements operation reading.Unread operand is = ap (coded_elements operation) is
reading-elements operation reading.Bad operand is = ap (coded_elements operation) is
reading-elements operation (reading.Data words) operand is = ap (coded_elements operation) is
reading-elements operation (reading.Con words) operand is = ap (coded_elements operation) is
reading-elements operation (reading.Vfd fields) operand is = ap (coded_elements operation) is
reading-elements operation (reading.Text text) operand is = ap (coded_elements operation) is
reading-elements operation (reading.Value e) operand is = ap (coded_elements operation) is
reading-elements operation (reading.Names names) operand is = ap (coded_elements operation) is
reading-elements operation (reading.Use given) operand is = ap (coded_elements operation) is ∙ use-elements operation given

-- of a deck only the places of its blocks are read
same-rows : (old new other another : Context) (a b : Result Form Letter) → old.rows ≡ other.rows → new.rows ≡ another.rows → same_value old new a b ≡ same_value other another a b
same-rows old new other another (Ok a) (Ok b) e f = ap₂ (λ (r s : List BlockRow). same_value (context_at r) (context_at s) (Ok a) (Ok b)) e f
same-rows old new other another (Ok a) (Err b) e f = refl
same-rows old new other another (Err a) (Ok b) e f = refl
same-rows old new other another (Err a) (Err b) e f = refl

-- what a statement sees of a deck
names-same : (bindings : Bindings) (context : Context) (settled : Settled) (location origin : Form) → AreBindings bindings context → location ≡ settled.location → origin ≡ settled.origin →
    names_in bindings location origin ≡ final_names context settled
names-same bindings context settled location origin are e f =
    (λ i. record { symbol = are.symbols i; literal = λ literal. literal_form (are.literals i) literal; location = e i; origin = f i })

differs-bound : (r : Rebinding) (old new : Context) (settled : Settled) → IsRebinding r old new settled → (element : Element) → differs r element ≡ not (bound_alike old new settled element)
differs-bound r old new settled is element =
    let before = names-same r.old old settled r.location r.origin is.of_old is.location is.origin in
    let after = names-same r.new new settled r.location r.origin is.of_new is.location is.origin in
    ap not (
    same-rows (context_at r.old.bases.now) (context_at r.new.bases.now) old new (element_form (names_in r.old r.location r.origin) element) (element_form (names_in r.new r.location r.origin) element) is.of_old.rows is.of_new.rows
    ∙ ap₂ (λ (a b : Names). same_value old new (element_form a element) (element_form b element)) before after
    )

any-same : {A : Type 0} (test other : A → Bool) (xs : List A) → ((x : A) → test x ≡ other x) → list_any test xs ≡ list_any other xs
any-same test other [] h = refl
any-same test other (x ∷ xs) h = ap₂ (λ (a b : Bool). a || b) (h x) (any-same test other xs h)

-- the test is that of the definitions
pub test-rebound : (r : Rebinding) (old new : Context) (settled : Settled) (read : ReadOperand) → IsRebinding r old new settled → IsReadOperand read settled →
    list_any (differs r) (reading_elements (operation_as read.operation) read.reading) ≡ is_rebound old new settled
test-rebound r old new settled read is taken =
    any-same (differs r) (λ element. not (bound_alike old new settled element)) (reading_elements (operation_as read.operation) read.reading) (differs-bound r old new settled is)
    ∙ ap (list_any (λ element. not (bound_alike old new settled element)))
    (sym (reading-elements (operation_as read.operation) read.reading settled.read.operand taken.operand) ∙ ap (λ (o : Operation). coded_elements o settled.read.operand) (sym taken.operation))
