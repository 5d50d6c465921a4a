-- Instructions that were found are those of the definitions.
use Rattle.std.{proofs.Common.{◌≡◌, ℕ, false, List, Option, Some, map, sym, ap, ◌∙◌, subst}}
use Rattle.definitions.specs.{Pieces.Piece, PeripheralTable.{PeripheralRow}, Operands.{plain_of, by_form, peripheral_operand}, declared.number_base.NumberBase.NumberBase}
use Rattle.definitions.specs.Operands as operand
use Rattle.expr_forms.specs.{declared.shapes.Shape.Shape, Joins.Shapes.HasForm}
use Rattle.ppu_opcodes.specs.{declared.code.Code.Code, Joins.PeripheralCodes.{row_as, form_as, found_row}, Joins.PeripheralShapes.{IsFieldOf, IsFound}}

-- the digits of a row, and its field
is_found-operand : (shape : Shape) (row : PeripheralRow) (found : operand.Operand) → shape.digits ≡ row.code → shape.digit_count ≡ 2 →
    IsFieldOf (Some shape.field) row found → IsFound shape found
is_found-operand shape row (operand.PeripheralOperand other values) digits count (is, form) =
    (digits ∙ ap (λ (r : PeripheralRow). r.code) (sym is), count, subst (λ (r : PeripheralRow). HasForm shape.field r.form values) (sym is) form)
is_found-operand shape row other digits count is = is

-- the row that was found, and a field of its form
pub is_found : (operation : List ℕ) (code : Code) (shape : Shape) (base : NumberBase) (subfields : List (List Piece)) (row : Option PeripheralRow) →
    found_row operation (Some code) ≡ row → shape.digits ≡ code.digits → shape.digit_count ≡ 2 →
    IsFieldOf (Some shape.field) (row_as operation code) (by_form (row_as operation code) (form_as code.form) (map (plain_of false base) subfields)) →
    IsFound shape (peripheral_operand base row subfields)
is_found operation code shape base subfields row found digits count field =
    subst (λ r. IsFound shape (peripheral_operand base r subfields)) found
    (is_found-operand shape (row_as operation code) (by_form (row_as operation code) (form_as code.form) (map (plain_of false base) subfields)) digits count field)
