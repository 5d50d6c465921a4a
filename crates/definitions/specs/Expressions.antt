-- Expressions: the tree, and how the pieces of a subfield are read (COMPASS 60492600, address expressions).
use Rattle.std.specs.{Prelude.{ℕ, zero, suc, List, [], ◌∷◌, Option, Some, None, Bool, true, false, ◌&&◌, nat_le, codes, map, flat_map, option_map, if◌then◌else◌}, List.list_all}
use Rattle.definitions.specs.{Characters.same_text, CountedItems.{CountedItem, bits_needed}, Pieces.{Mark, Plus, Minus, Star, Slash, Equals, Piece, IsMark, IsCountedItem, Plain}, Symbols.{Register, register_of, is_symbol, Number, number_read}, declared.number_base.NumberBase.NumberBase}

-- no sign, plus or minus
pub data Sign : Type 0 where
  NoSign : Sign
  PlusSign : Sign
  MinusSign : Sign

-- what an equals sign stands before
pub data Literal : Type 0 where
  OfNumber : Sign → Number → Literal
  OfCountedItem : CountedItem → Literal

-- what an expression is made of: numbers, items, symbols, registers, the two counters and literals
pub data Element : Type 0 where
  ANumber : Number → Element
  ACountedItem : CountedItem → Element
  ASymbol : List ℕ → Element
  ARegister : Register → Element
  LocationCounter : Element
  OriginCounter : Element
  ALiteral : Literal → Element

-- what stands between two elements
pub data Operator : Type 0 where
  Times : Operator
  Divide : Operator
  Add : Operator
  Subtract : Operator

-- an operator with the element behind it
pub record OperatorElement : Type 0 where
  pub operator : Operator
  pub element : Element

-- an element that is added or subtracted, and the factors that multiply or divide it in turn
pub record Term : Type 0 where
  pub operator : Operator
  pub element : Element
  pub factors : List OperatorElement

-- the sum of its terms; the sign is that of the first one
pub record Expression : Type 0 where
  pub sign : Sign
  pub terms : List Term

-- the register that was found, else a symbol, else a number, if the run spells one
abbrev pub element_of_name : NumberBase → List ℕ → Option Register → Option Element
element_of_name base text None = if is_symbol text then Some (ASymbol text) else option_map ANumber (number_read base text)
element_of_name base text (Some register) = Some (ARegister register)

-- the element that a run of characters spells, if it spells one
abbrev pub element_of_text : NumberBase → List ℕ → Option Element
element_of_text base text = element_of_name base text (register_of text)

-- behind a star where an element may begin: `*L` is the location counter too
abbrev pub counter_of : List ℕ → Option Element
counter_of text =
    if same_text text (codes "O") then Some OriginCounter
    else if same_text text (codes "L") then Some LocationCounter else None

-- the literal of a number and its sign, if there is a number
abbrev pub literal_of : Sign → Option Number → Option Element
literal_of sign number = option_map (λ n. ALiteral (OfNumber sign n)) number

-- an element, if it is lawful, and how many of the pieces it takes
pub record ElementSpan : Type 0 where
  pub element : Option Element
  pub taken : ℕ

-- an element of so many pieces
abbrev pub spanning : ℕ → Option Element → ElementSpan
spanning taken element = record { element = element; taken = taken }

-- no element
abbrev pub no_element : ElementSpan
no_element = spanning 0 None

-- the element that begins these pieces; a star with no run behind it is the location counter
abbrev pub element_at : NumberBase → List Piece → ElementSpan
element_at base (Plain text ∷ pieces) = spanning 1 (element_of_text base text)
element_at base (IsCountedItem item ∷ pieces) = spanning 1 (Some (ACountedItem item))
element_at base (IsMark Star ∷ Plain text ∷ pieces) = spanning 2 (counter_of text)
element_at base (IsMark Star ∷ pieces) = spanning 1 (Some LocationCounter)
element_at base (IsMark Equals ∷ Plain text ∷ pieces) = spanning 2 (literal_of NoSign (number_read base text))
element_at base (IsMark Equals ∷ IsCountedItem item ∷ pieces) = spanning 2 (Some (ALiteral (OfCountedItem item)))
element_at base (IsMark Equals ∷ IsMark Plus ∷ Plain text ∷ pieces) = spanning 3 (literal_of PlusSign (number_read base text))
element_at base (IsMark Equals ∷ IsMark Minus ∷ Plain text ∷ pieces) = spanning 3 (literal_of MinusSign (number_read base text))
element_at base pieces = no_element

-- the operator that a mark is, if it is one
abbrev pub operator_of_mark : Mark → Option Operator
operator_of_mark Star = Some Times
operator_of_mark Slash = Some Divide
operator_of_mark Plus = Some Add
operator_of_mark Minus = Some Subtract
operator_of_mark _ = None

-- an operator and its element in front of those behind them, where all are lawful
abbrev pub onto_pairs : Operator → Option Element → Option (List OperatorElement) → Option (List OperatorElement)
onto_pairs operator None pairs = None
onto_pairs operator (Some element) None = None
onto_pairs operator (Some element) (Some pairs) = Some (record { operator = operator; element = element } ∷ pairs)

-- operators, each with the element behind it, behind so many pieces of the element before them
abbrev pub pairs_of : NumberBase → ℕ → List Piece → Option (List OperatorElement)
pairs_of base left [] = Some []
pairs_of base (suc left) (piece ∷ pieces) = pairs_of base left pieces
pairs_of base zero (IsMark mark ∷ pieces) =
    let next = element_at base pieces in
    elim (operator_of_mark mark) [
      | None ↦ None
      | Some operator ↦ onto_pairs operator next.element (pairs_of base next.taken pieces)
    ]
pairs_of base zero (piece ∷ pieces) = None

-- the factors in front, and the terms behind them
pub record Grouped : Type 0 where
  pub factors : List OperatorElement
  pub terms : List Term

-- behind a star or slash an element is a factor; behind plus or minus it makes a term with the factors that follow
abbrev pub onto_grouped : OperatorElement → Operator → Grouped → Grouped
onto_grouped pair Times rest = record rest { factors = pair ∷ rest.factors }
onto_grouped pair Divide rest = record rest { factors = pair ∷ rest.factors }
onto_grouped pair Add rest = record { factors = []; terms = record { operator = Add; element = pair.element; factors = rest.factors } ∷ rest.terms }
onto_grouped pair Subtract rest = record { factors = []; terms = record { operator = Subtract; element = pair.element; factors = rest.factors } ∷ rest.terms }

-- elements and their operators, put together to terms
abbrev pub grouped : List OperatorElement → Grouped
grouped [] = record { factors = []; terms = [] }
grouped (pair ∷ pairs) = onto_grouped pair pair.operator (grouped pairs)

-- the expression of a leading sign and the elements behind it, if they are lawful
abbrev pub with_sign : Sign → Option (List OperatorElement) → Option Expression
with_sign sign pairs = option_map (λ ps. record { sign = sign; terms = (grouped ps).terms }) pairs

-- the expression that the pieces of a subfield spell, if they spell one; without a sign it is read as behind a plus
abbrev pub expression_of : NumberBase → List Piece → Option Expression
expression_of base (IsMark Plus ∷ pieces) = with_sign PlusSign (pairs_of base 0 (IsMark Plus ∷ pieces))
expression_of base (IsMark Minus ∷ pieces) = with_sign MinusSign (pairs_of base 0 (IsMark Minus ∷ pieces))
expression_of base pieces = with_sign NoSign (pairs_of base 0 (IsMark Plus ∷ pieces))

-- the elements of an expression, from left to right
abbrev pub elements_of : Expression → List Element
elements_of e = flat_map (λ term. term.element ∷ map (λ pair. pair.element) term.factors) e.terms

-- a literal is allowed where literals are, if its item fits one word
abbrev pub is_allowed_literal : Bool → Literal → Bool
is_allowed_literal literals (OfNumber sign number) = literals
is_allowed_literal literals (OfCountedItem item) = literals && nat_le (bits_needed item) 60

-- an element that is no register, and a literal only where it is allowed
abbrev pub is_allowed : Bool → Element → Bool
is_allowed literals (ARegister r) = false
is_allowed literals (ALiteral l) = is_allowed_literal literals l
is_allowed literals _ = true

-- an expression without registers, and without literals where they are not allowed
abbrev pub is_plain : Bool → Expression → Bool
is_plain literals e = list_all (is_allowed literals) (elements_of e)
