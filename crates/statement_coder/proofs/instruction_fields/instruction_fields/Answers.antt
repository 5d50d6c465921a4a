use Rattle.std.proofs.Common.{[], ◌∷◌, ap, ap₂, refl}
use Rattle.definitions.specs.StatementItems.{Item}
use Rattle.statement_coder.{specs.Joins.Items.{deck_with, item_as}, proofs.ShapeLaws.shape-coded}
use Rattle.statement_coder.proofs.instruction_fields.instruction_fields.Goals as goal

pub returns-in-Absent-clause-coded : goal.returns-in-Absent-clause-coded
returns-in-Absent-clause-coded g c =
    shape-coded c.alone.result _ c.args.kind _ c.args.shape.now _ (item_as c.digits_of-digits.result) ([]) c.digits_of-digits.ensures c.in-Absent.is
    (λ settled literals statement seen. refl) c.alone.ensures.coded

pub returns-in-Address-clause-coded : goal.returns-in-Address-clause-coded
returns-in-Address-clause-coded g c =
    shape-coded c.behind.result _ c.args.kind _ c.args.shape.now _ (item_as c.digits_of-digits.result) (item_as c.expression_item.result ∷ []) c.digits_of-digits.ensures c.in-Address.is
    (λ settled literals statement seen. ap (λ (item : Item). item ∷ []) (c.expression_item.ensures settled literals statement seen)) c.behind.ensures.coded

pub returns-in-Count-clause-coded : goal.returns-in-Count-clause-coded
returns-in-Count-clause-coded g c =
    shape-coded c.behind-in-Count.result _ c.args.kind _ c.args.shape.now _ (item_as c.digits_of-digits.result) (item_as c.count_item.result ∷ []) c.digits_of-digits.ensures c.in-Count.is
    (λ settled literals statement seen. ap (λ (item : Item). item ∷ []) (c.count_item.ensures (deck_with c.args.kind (g.B.BlockBases.rows c.args.bases.now) settled literals) statement seen)) c.behind-in-Count.ensures.coded

pub returns-in-Zero-clause-coded : goal.returns-in-Zero-clause-coded
returns-in-Zero-clause-coded g c =
    shape-coded c.behind-in-Zero.result _ c.args.kind _ c.args.shape.now _ (item_as c.digits_of-digits.result) (item_as c.known.result ∷ []) c.digits_of-digits.ensures c.in-Zero.is
    (λ settled literals statement seen. ap (λ (item : Item). item ∷ []) (c.known.ensures)) c.behind-in-Zero.ensures.coded

pub returns-in-Short-clause-coded : goal.returns-in-Short-clause-coded
returns-in-Short-clause-coded g c =
    shape-coded c.behind-in-Short.result _ c.args.kind _ c.args.shape.now _ (item_as c.digits_of-digits.result) (item_as c.expression_item-in-Short.result ∷ []) c.digits_of-digits.ensures c.in-Short.is
    (λ settled literals statement seen. ap (λ (item : Item). item ∷ []) (c.expression_item-in-Short.ensures settled literals statement seen)) c.behind-in-Short.ensures.coded

pub returns-in-Displacement-clause-coded : goal.returns-in-Displacement-clause-coded
returns-in-Displacement-clause-coded g c =
    shape-coded c.behind-in-Displacement.result _ c.args.kind _ c.args.shape.now _ (item_as c.digits_of-digits.result) (item_as c.displacement_item.result ∷ []) c.digits_of-digits.ensures c.in-Displacement.is
    (λ settled literals statement seen. ap (λ (item : Item). item ∷ []) (c.displacement_item.ensures settled literals statement seen)) c.behind-in-Displacement.ensures.coded

pub returns-in-Shift-clause-coded : goal.returns-in-Shift-clause-coded
returns-in-Shift-clause-coded g c =
    shape-coded c.behind-in-Shift.result _ c.args.kind _ c.args.shape.now _ (item_as c.digits_of-digits.result) (item_as c.shift_item.result ∷ []) c.digits_of-digits.ensures c.in-Shift.is
    (λ settled literals statement seen. ap (λ (item : Item). item ∷ []) (c.shift_item.ensures settled literals statement seen)) c.behind-in-Shift.ensures.coded

pub returns-in-Wide-clause-coded : goal.returns-in-Wide-clause-coded
returns-in-Wide-clause-coded g c =
    shape-coded c.behind-in-Wide.result _ c.args.kind _ c.args.shape.now _ (item_as c.digits_of-digits.result) (item_as c.expression_item-in-Wide.result ∷ []) c.digits_of-digits.ensures c.in-Wide.is
    (λ settled literals statement seen. ap (λ (item : Item). item ∷ []) (c.expression_item-in-Wide.ensures settled literals statement seen)) c.behind-in-Wide.ensures.coded

pub returns-in-Long-clause-coded : goal.returns-in-Long-clause-coded
returns-in-Long-clause-coded g c =
    shape-coded c.together.result _ c.args.kind _ c.args.shape.now _ (item_as c.digits_of-digits.result) (item_as c.second_value-d.result ∷ item_as c.expression_item-m.result ∷ []) c.digits_of-digits.ensures c.in-Long.is
    (λ settled literals statement seen. ap₂ (λ (d m : Item). d ∷ m ∷ []) (c.second_value-d.ensures settled literals statement seen c.in-Long.m) (c.expression_item-m.ensures settled literals statement seen)) c.together.ensures.coded
