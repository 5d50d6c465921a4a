-- The fields of an instruction of either table are those of its operand.
use Rattle.std.{proofs.Common.{◌≡◌, ◌∙◌, ℕ, ◌*◌, List, ◌∷◌, Option, Some, None, refl, sym, ap, ap₂, subst}, specs.Prelude.unwrap_or}
use Rattle.definitions.specs.{Expressions.Expression, Forms.Names, Lengths.BlockRow, Matching.Instruction, PeripheralTable.{PeripheralForm, PeripheralRow}, Operands.{Operand, CentralOperand, PeripheralOperand}, Settled.Settled, StatementItems.{Item, Context, known, peripheral_items, operand_items}, declared.deck_kind.DeckKind.DeckKind}
use Rattle.definitions.specs.Matching as matching
use Rattle.expr_forms.specs.{Joins.Shapes.{field_as, instruction_with, HasForm}, declared.shapes.Field.Field, declared.shapes.Shape.Shape}
use Rattle.expr_forms.specs.declared.shapes.Field.TheVariants as field
use Rattle.statement_coder.specs.{Joins.CodedItems.{AreCoded, AreCodedAs}, Joins.FieldItems.items_behind, Joins.Items.{AreSeen, deck_with}, Joins.Readings.IsInstruction, declared.coded.Coded.Coded, declared.sizing.Sizing.Sizing}
use Rattle.statement_coder.specs.declared.items.Item as code

-- behind the digits of a peripheral instruction
pub items_behind-form : (context : Context) (statement : Settled) (f : Field) (form : PeripheralForm) (values : List Expression) → HasForm f form values →
    items_behind context statement f ≡ peripheral_items context statement form values
items_behind-form context statement field.Absent form values h = absurd h
items_behind-form context statement (field.Address k) form values h = absurd h
items_behind-form context statement (field.Count n) form values h = absurd h
items_behind-form context statement field.Zero form values h = sym (ap₂ (peripheral_items context statement) h.0 h.1)
items_behind-form context statement (field.Short d) form values h = sym (ap₂ (peripheral_items context statement) h.0 h.1)
items_behind-form context statement (field.Displacement d) form values h = sym (ap₂ (peripheral_items context statement) h.0 h.1)
items_behind-form context statement (field.Shift d) form values h = sym (ap₂ (peripheral_items context statement) h.0 h.1)
items_behind-form context statement (field.Wide value) form values h = sym (ap₂ (peripheral_items context statement) h.0 h.1)
items_behind-form context statement (field.Long m None) form values h = sym (ap₂ (peripheral_items context statement) h.0 h.1)
items_behind-form context statement (field.Long m (Some d)) form values h = sym (ap₂ (peripheral_items context statement) h.0 h.1)

-- the fields of a peripheral instruction
pub peripheral-items : (context : Context) (statement : Settled) (digits count : ℕ) (f : Field) (row : PeripheralRow) (values : List Expression) →
    digits ≡ row.code → count ≡ 2 → HasForm f row.form values →
    known (3 * count) digits ∷ items_behind context statement f ≡ operand_items context statement (PeripheralOperand row values)
peripheral-items context statement digits count f row values d c h =
    ap₂ (λ (first : Item) (items : List Item). first ∷ items) (ap₂ (λ n m. known (3 * n) m) c d) (items_behind-form context statement f row.form values h)

-- the fields of a central instruction
pub central-items : (context : Context) (statement : Settled) (digits count : ℕ) (f : Field) (instruction : Instruction) →
    instruction_with digits count (field_as f) ≡ Some instruction →
    known (3 * count) digits ∷ items_behind context statement f ≡ operand_items context statement (CentralOperand instruction)
central-items context statement digits count field.Absent instruction h =
    ap (λ (found : Option Instruction). operand_items context statement (CentralOperand (unwrap_or found (record { digits = digits; count = count; field = matching.NoField })))) h
central-items context statement digits count (field.Address k) instruction h =
    ap (λ (found : Option Instruction). operand_items context statement (CentralOperand (unwrap_or found (record { digits = digits; count = count; field = matching.OfK k })))) h
central-items context statement digits count (field.Count n) instruction h =
    ap (λ (found : Option Instruction). operand_items context statement (CentralOperand (unwrap_or found (record { digits = digits; count = count; field = matching.OfN n })))) h
central-items context statement digits count field.Zero instruction h = cc
central-items context statement digits count (field.Short d) instruction h = cc
central-items context statement digits count (field.Displacement d) instruction h = cc
central-items context statement digits count (field.Shift d) instruction h = cc
central-items context statement digits count (field.Wide value) instruction h = cc
central-items context statement digits count (field.Long m d) instruction h = cc

-- what is coded of the fields of an instruction of either table is coded of its operand
pub instruction-coded : (context : Context) (statement : Settled) (shape : Shape) (operand : Operand) (kind : DeckKind) (sizing : Sizing) (coded : Coded) (list : List code.Item) →
    IsInstruction shape operand → AreCodedAs (known (3 * shape.digit_count) shape.digits ∷ items_behind context statement shape.field) coded →
    AreCoded kind operand sizing coded list list (operand_items context statement operand)
instruction-coded context statement shape (CentralOperand instruction) kind sizing coded list h told =
    subst (λ fields. AreCodedAs fields coded) (central-items context statement shape.digits shape.digit_count shape.field instruction h) told kind (CentralOperand instruction) sizing list refl
instruction-coded context statement shape (PeripheralOperand row values) kind sizing coded list h told =
    subst (λ fields. AreCodedAs fields coded) (peripheral-items context statement shape.digits shape.digit_count shape.field row values h.0 h.1 h.2) told kind (PeripheralOperand row values) sizing list refl
instruction-coded context statement shape _ kind sizing coded list h told = absurd h

-- digits, and the fields of this field behind them
pub shape-coded : (coded : Coded) (names : Names) (kind : DeckKind) (rows : List BlockRow) (shape : Shape) (found : Field) (first : Item) (rest : List Item) →
    first ≡ known (3 * shape.digit_count) shape.digits → shape.field ≡ found →
    ((settled : List Settled) (literals : List ℕ) (statement : Settled) → AreSeen names (deck_with kind rows settled literals) statement → rest ≡ items_behind (deck_with kind rows settled literals) statement found) →
    AreCodedAs (first ∷ rest) coded →
    (settled : List Settled) (literals : List ℕ) (statement : Settled) → AreSeen names (deck_with kind rows settled literals) statement →
    AreCodedAs (known (3 * shape.digit_count) shape.digits ∷ items_behind (deck_with kind rows settled literals) statement shape.field) coded
shape-coded coded names kind rows shape found first rest d is same told settled literals statement seen =
    subst (λ fields. AreCodedAs fields coded)
    (ap₂ (λ (x : Item) (xs : List Item). x ∷ xs) d (same settled literals statement seen ∙ sym (ap (items_behind (deck_with kind rows settled literals) statement) is))) told
