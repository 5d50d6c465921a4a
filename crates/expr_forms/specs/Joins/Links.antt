-- Links of the code, in the words of the definitions.
use Rattle.std.specs.Prelude.{ℕ, List, [], ◌∷◌, Option, Some, None, ⊤, unwrap_or, ◌≡◌, true, is_some}
use Rattle.definitions.specs.{Pieces.{Inside, pieces_at}, Expressions.{Operator, Times, Divide, Add, Subtract, OperatorElement, onto_pairs, pairs_of}, declared.number_base.NumberBase.NumberBase}
use Rattle.expr_forms.specs.Joins.Elements.{element_as}
use Rattle.expr_forms.specs.declared.links.Operator as operators
use Rattle.expr_forms.specs.declared.links.Operator.TheVariants as operator
use Rattle.expr_forms.specs.declared.elements.Element as elements
use Rattle.expr_forms.specs.declared.links.Link as code
use Rattle.expr_forms.specs.declared.links.LinkFound as links
use Rattle.expr_forms.specs.declared.links.LinkFound.TheVariants as found

-- the operator
abbrev pub operator_as : operators.Operator → Operator
operator_as operator.Times = Times
operator_as operator.Divide = Divide
operator_as operator.Add = Add
operator_as operator.Subtract = Subtract

-- the pairs that begin with the link that was found
abbrev pub links_found : NumberBase → links.LinkFound → Option (List OperatorElement)
links_found base found.End = Some []
links_found base found.Unlawful = None
links_found base (found.Link link rest) = onto_pairs (operator_as link.operator) (Some (element_as link.element)) (pairs_of base 0 (pieces_at Inside 0 rest.now))

-- the operator and its element
abbrev pub link_as : code.Link → OperatorElement
link_as link = record { operator = operator_as link.operator; element = element_as link.element }

-- the same, of an operator and an element by themselves
abbrev pub link_made : operators.Operator → elements.Element → OperatorElement
link_made operator element = record { operator = operator_as operator; element = element_as element }

-- the pairs that a text behind an element spells, if it does
abbrev pub pairs_behind : NumberBase → List ℕ → Option (List OperatorElement)
pairs_behind base rest = pairs_of base 0 (pieces_at Inside 0 rest)

-- a text spells pairs and nothing else
abbrev pub IsLawful : NumberBase → List ℕ → Type 0
IsLawful base rest = is_some (pairs_behind base rest) ≡ true

-- those pairs, or none
abbrev pub links_behind : NumberBase → List ℕ → List OperatorElement
links_behind base rest = unwrap_or (pairs_behind base rest) []

-- a link that may be left, and those behind it
abbrev pub links_left : NumberBase → Option code.Link → List ℕ → List OperatorElement
links_left base None rest = links_behind base rest
links_left base (Some link) rest = link_as link ∷ links_behind base rest

-- a fact on the text behind a link, if there is one
abbrev pub ForLink : links.LinkFound → (List ℕ → Type 0) → Type 0
ForLink (found.Link link rest) P = P rest.now
ForLink _ P = ⊤
