-- An operand that is not one to three lawful subfields is none of a peripheral instruction that reads it.
use Rattle.std.{proofs.Common.{◌≡◌, Bool, true, false, ◌&&◌, List, [], ◌∷◌, Option, Some, None, refl, map, if◌then◌else◌}, specs.Prelude.is_some}
use Rattle.definitions.specs.{Pieces.Piece, Expressions.{Expression, expression_of, is_plain}, PeripheralTable.{PeripheralForm, Ignored, Short, ShortJump, Shift, Wide, Long, PeripheralRow}, Operands.{BadOperand, plain_expression, plain_of, one_or_two, just_one, by_form, peripheral_operand}, declared.number_base.NumberBase.NumberBase}
use Rattle.expr_forms.specs.Joins.Operands.{is_operand}
use Rattle.ppu_opcodes.specs.Joins.PeripheralShapes.{is_ignored, is_ignoring}

-- more than one value
just_one-two : (row : PeripheralRow) (x y : Option Expression) (rest : List (Option Expression)) → just_one row (x ∷ y ∷ rest) ≡ BadOperand
just_one-two row None y rest = refl
just_one-two row (Some x) y rest = refl

-- more than two values
one_or_two-three : (row : PeripheralRow) (x y z : Option Expression) (rest : List (Option Expression)) → one_or_two row (x ∷ y ∷ z ∷ rest) ≡ BadOperand
one_or_two-three row None y z rest = refl
one_or_two-three row (Some x) None z rest = refl
one_or_two-three row (Some x) (Some y) z rest = refl

-- one value that is no expression
just_one-bad : (row : PeripheralRow) (o : Option Expression) → is_some o ≡ false → just_one row (plain_expression false o ∷ []) ≡ BadOperand
just_one-bad row None e = refl
just_one-bad row (Some x) e = cc

one_or_two-bad : (row : PeripheralRow) (o : Option Expression) → is_some o ≡ false → one_or_two row (plain_expression false o ∷ []) ≡ BadOperand
one_or_two-bad row None e = refl
one_or_two-bad row (Some x) e = cc

-- the second of two is none
second-bad : (row : PeripheralRow) (x : Expression) (b : Bool) → one_or_two row ((if b then Some x else None) ∷ None ∷ []) ≡ BadOperand
second-bad row x true = refl
second-bad row x false = refl

-- two of which one is no expression
pair-bad : (row : PeripheralRow) (o p : Option Expression) → (is_some o && is_some p) ≡ false → one_or_two row (plain_expression false o ∷ plain_expression false p ∷ []) ≡ BadOperand
pair-bad row None p e = refl
pair-bad row (Some x) None e = second-bad row x (is_plain false x)
pair-bad row (Some x) (Some y) e = cc

-- one value and no more
one-bad : (base : NumberBase) (row : PeripheralRow) (subfields : List (List Piece)) → is_operand base subfields ≡ false → just_one row (map (plain_of false base) subfields) ≡ BadOperand
one-bad base row [] e = refl
one-bad base row (p ∷ []) e = just_one-bad row (expression_of base p) e
one-bad base row (p ∷ q ∷ rest) e = just_one-two row (plain_of false base p) (plain_of false base q) (map (plain_of false base) rest)

-- one value or two
two-bad : (base : NumberBase) (row : PeripheralRow) (subfields : List (List Piece)) → is_operand base subfields ≡ false → one_or_two row (map (plain_of false base) subfields) ≡ BadOperand
two-bad base row [] e = refl
two-bad base row (p ∷ []) e = one_or_two-bad row (expression_of base p) e
two-bad base row (p ∷ q ∷ []) e = pair-bad row (expression_of base p) (expression_of base q) e
two-bad base row (p ∷ q ∷ r ∷ rest) e = one_or_two-three row (plain_of false base p) (plain_of false base q) (plain_of false base r) (map (plain_of false base) rest)

form-bad : (base : NumberBase) (row : PeripheralRow) (form : PeripheralForm) (subfields : List (List Piece)) → is_ignored form ≡ false → is_operand base subfields ≡ false →
    by_form row form (map (plain_of false base) subfields) ≡ BadOperand
form-bad base row Ignored subfields i e = cc
form-bad base row Short subfields i e = one-bad base row subfields e
form-bad base row ShortJump subfields i e = one-bad base row subfields e
form-bad base row Shift subfields i e = one-bad base row subfields e
form-bad base row Wide subfields i e = one-bad base row subfields e
form-bad base row Long subfields i e = two-bad base row subfields e

pub peripheral-bad : (base : NumberBase) (row : Option PeripheralRow) (subfields : List (List Piece)) → is_ignoring row ≡ false → is_operand base subfields ≡ false →
    peripheral_operand base row subfields ≡ BadOperand
peripheral-bad base None subfields i e = refl
peripheral-bad base (Some row) subfields i e = form-bad base row row.form subfields i e
