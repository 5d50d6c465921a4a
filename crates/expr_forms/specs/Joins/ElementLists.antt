-- What the elements of an expression are, link by link.
use Rattle.std.specs.Prelude.{ℕ, List, [], ◌∷◌, Option, None, map, flat_map, filter_map}
use Rattle.definitions.specs.{CountedItems.CountedItem, Expressions.{Literal, Element, OperatorElement}, Literals.literal_in, StatementItems.whole_term, Laws.Agreement.symbols_of_element}

-- the elements behind the operators
abbrev pub elements_in : List OperatorElement → List Element
elements_in pairs = map (λ pair. pair.element) pairs

-- the item that is the only element
abbrev pub item_alone : List OperatorElement → Option CountedItem
item_alone (pair ∷ []) = whole_term pair.element
item_alone _ = None

-- the literals among the elements
abbrev pub literals_among : List OperatorElement → List Literal
literals_among pairs = filter_map literal_in (elements_in pairs)

-- the symbols among the elements
abbrev pub symbols_among : List OperatorElement → List (List ℕ)
symbols_among pairs = flat_map symbols_of_element (elements_in pairs)
