use Rattle.std.proofs.Common.{◌∙◌, Some, map, false, refl, sym, ap, subst}
use Rattle.definitions.specs.Operands.{plain_of, by_form, peripheral_operand}
use Rattle.ppu_opcodes.{specs.Joins.PeripheralCodes.{row_as, found_row}, specs.Joins.PeripheralShapes.{IsFieldOf, fault_of}, proofs.ShapeLaws.is_found}
use Rattle.ppu_opcodes.proofs.shapes.find.Goals as goal

pub returns-in-Some-field_of : goal.returns-in-Some-field_of
returns-in-Some-field_of c = λ base subfields is.
    let row = row_as c.args.operation.now c.in-Some.code in
    is_found c.args.operation.now c.in-Some.code c.shape_of.result base subfields _
    (ap (found_row c.args.operation.now) (sym c.in-Some.is) ∙ c.row_of.ensures)
    c.shape_of.ensures.digits c.shape_of.ensures.count
    (subst (λ f. IsFieldOf f row (by_form row row.form (map (plain_of false base) subfields)))
    (c.in-Some-field_of.is ∙ ap Some (sym c.shape_of.ensures.field))
    (c.field_of.ensures base subfields row is refl))

pub returns-in-None-field_of : goal.returns-in-None-field_of
returns-in-None-field_of c =
    let row = row_as c.args.operation.now c.in-Some.code in
    let found = ap (found_row c.args.operation.now) (sym c.in-Some.is) ∙ c.row_of.ensures in (
      ap fault_of found,
      λ base subfields is.
          sym (ap (λ r. peripheral_operand base r subfields) found)
          ∙ subst (λ f. IsFieldOf f row (by_form row row.form (map (plain_of false base) subfields))) c.in-None-field_of.is (c.field_of.ensures base subfields row is refl),
    )
