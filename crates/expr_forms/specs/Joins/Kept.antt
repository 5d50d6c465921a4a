-- What is kept of a reading, in the words of what was read.
use Rattle.definitions.specs.{Symbols.Value, Expressions.{Element, ANumber, ASymbol, ARegister, LocationCounter, OriginCounter, ALiteral, OfNumber, OperatorElement}}
use Rattle.expr_forms.specs.{Joins.Elements.sign_as, Joins.Links.operator_as, Joins.Registers.register_as, declared.links.Operator.Operator, declared.shapes.Field.Field, declared.shapes.Shape.Shape}
use Rattle.expr_forms.specs.declared.kept_expressions.KeptElement as elements
use Rattle.expr_forms.specs.declared.kept_expressions.KeptElement.TheVariants as element
use Rattle.expr_forms.specs.declared.kept_shapes.KeptField as fields
use Rattle.expr_forms.specs.declared.kept_shapes.KeptField.TheVariants as kept
use Rattle.expr_forms.specs.declared.kept_shapes.KeptShape as shapes
use Rattle.expr_forms.specs.declared.shapes.Field.TheVariants as field

-- the element
abbrev pub kept_element_as : elements.KeptElement → Element
kept_element_as (element.Number size) = ANumber (Value size)
kept_element_as (element.Symbol name) = ASymbol name
kept_element_as (element.Register register) = ARegister (register_as register)
kept_element_as element.LocationCounter = LocationCounter
kept_element_as element.OriginCounter = OriginCounter
kept_element_as (element.Literal sign size) = ALiteral (OfNumber (sign_as sign) (Value size))

-- the operator and its element
abbrev pub kept_link_as : Operator → elements.KeptElement → OperatorElement
kept_link_as operator first = record { operator = operator_as operator; element = kept_element_as first }

-- the field, as it was read
abbrev pub field_of : fields.KeptField → Field
field_of kept.Absent = field.Absent
field_of (kept.Address e) = field.Address e
field_of (kept.Count e) = field.Count e
field_of kept.Zero = field.Zero
field_of (kept.Short e) = field.Short e
field_of (kept.Displacement e) = field.Displacement e
field_of (kept.Shift e) = field.Shift e
field_of (kept.Wide e) = field.Wide e

-- the instruction, as it was read
abbrev pub shape_of : shapes.KeptShape → Shape
shape_of shape = record { digits = shape.digits; digit_count = shape.digit_count; field = field_of shape.field }
