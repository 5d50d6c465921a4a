-- Elements of the code, in the words of the definitions.
use Rattle.std.specs.Prelude.{List, ◌∷◌, Option, Some, None, Bool, true, false}
use Rattle.definitions.specs.{Pieces.{Mark, Equals, Piece, Plain, Inside, pieces_at}, Symbols.number_read, Expressions.{Sign, NoSign, PlusSign, MinusSign, Literal, OfNumber, OfCountedItem, Element, ANumber, ACountedItem, ASymbol, ARegister, LocationCounter, OriginCounter, ALiteral, Operator, OperatorElement, literal_of, onto_pairs, pairs_of}, declared.number_base.NumberBase.NumberBase, Laws.ItemTexts.item_as}
use Rattle.expr_forms.specs.Joins.{Numbers.number_as, Registers.register_as}
use Rattle.expr_forms.specs.declared.elements.Sign as signs
use Rattle.expr_forms.specs.declared.elements.Sign.TheVariants as sign
use Rattle.expr_forms.specs.declared.elements.Literal as literals
use Rattle.expr_forms.specs.declared.elements.Literal.TheVariants as literal
use Rattle.expr_forms.specs.declared.elements.Element as elements
use Rattle.expr_forms.specs.declared.elements.Element.TheVariants as element
use Rattle.expr_forms.specs.declared.elements.ElementFound as found

-- the sign
abbrev pub sign_as : signs.Sign → Sign
sign_as sign.Absent = NoSign
sign_as sign.Plus = PlusSign
sign_as sign.Minus = MinusSign

-- the literal
abbrev pub literal_as : literals.Literal → Literal
literal_as (literal.Number sign number) = OfNumber (sign_as sign) (number_as number)
literal_as (literal.Item item) = OfCountedItem (item_as item)

-- the element
abbrev pub element_as : elements.Element → Element
element_as (element.Number number) = ANumber (number_as number)
element_as (element.Item item) = ACountedItem (item_as item)
element_as (element.Symbol name) = ASymbol name.now
element_as (element.Register register) = ARegister (register_as register)
element_as element.LocationCounter = LocationCounter
element_as element.OriginCounter = OriginCounter
element_as (element.Literal literal) = ALiteral (literal_as literal)

-- an operator and the element that was found, in front of the pairs behind it
abbrev pub elements_found : NumberBase → Operator → Option found.ElementFound → Option (List OperatorElement)
elements_found base o None = None
elements_found base o (Some found) = onto_pairs o (Some (element_as found.element)) (pairs_of base 0 (pieces_at Inside 0 found.rest.now))

-- behind an equals sign and a sign: a number, and pairs
abbrev pub signed_literal : NumberBase → Operator → Sign → List Piece → Option (List OperatorElement)
signed_literal base o sign (Plain text ∷ pieces) = onto_pairs o (literal_of sign (number_read base text)) (pairs_of base 0 pieces)
signed_literal base o sign pieces = None

-- an equals sign begins an element; every other mark may stand behind one
abbrev pub ends_element : Mark → Bool
ends_element Equals = false
ends_element mark = true
