-- The fields behind the digits of an instruction, by the kind of field.
use Rattle.std.specs.Prelude.{List, [], ◌∷◌, drop, Result}
use Rattle.definitions.specs.{Expressions.Expression, Forms.Form, Kinds.address_bits, Settled.Settled, StatementItems.{Item, Context, known, expression_item, whole_counted_item, small_value, count_of, shift_of, displacement_of, second_value}, declared.letter.Letter.Letter}
use Rattle.expr_forms.specs.{Joins.Shapes.long_values, declared.shapes.Field.Field}
use Rattle.expr_forms.specs.declared.shapes.Field.TheVariants as field

-- the value of an expression by the rule of 6 bits
abbrev pub value_in_6_bits : Context → Settled → Expression → Result Form Letter
value_in_6_bits context statement e = small_value context statement e (whole_counted_item e.sign e.terms)

-- none, one or two fields
abbrev pub items_behind : Context → Settled → Field → List Item
items_behind context statement field.Absent = []
items_behind context statement (field.Address k) = expression_item context statement address_bits k ∷ []
items_behind context statement (field.Count n) = count_of (value_in_6_bits context statement n) ∷ []
items_behind context statement field.Zero = known 6 0 ∷ []
items_behind context statement (field.Short d) = expression_item context statement 6 d ∷ []
items_behind context statement (field.Displacement d) = displacement_of context statement (value_in_6_bits context statement d) ∷ []
items_behind context statement (field.Shift d) = shift_of context (value_in_6_bits context statement d) ∷ []
items_behind context statement (field.Wide value) = expression_item context statement address_bits value ∷ []
items_behind context statement (field.Long m d) = second_value context statement (drop 1 (long_values m d)) ∷ expression_item context statement 12 m ∷ []
