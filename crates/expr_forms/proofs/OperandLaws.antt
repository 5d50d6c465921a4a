-- Operands by the subfields that were read.
use Rattle.std.{proofs.Common.{◌≡◌, List, [], ◌∷◌, Bool, true, false, ◌&&◌, Option, Some, None, refl, ◌∙◌, ap}, specs.Prelude.is_some, specs.List.{list_all, onto_first}}
use Rattle.definitions.{specs.Pieces.{Plus, Minus, Star, Slash, Equals, Piece, IsMark, IsCountedItem, Plain, subfields_of}, specs.Symbols.number_read, specs.Expressions.{Sign, NoSign, PlusSign, MinusSign, OfCountedItem, Element, ACountedItem, LocationCounter, ALiteral, Operator, Times, Divide, Add, Subtract, OperatorElement, Expression, element_of_text, counter_of, literal_of, onto_pairs, pairs_of, with_sign, expression_of}, specs.declared.number_base.NumberBase.NumberBase, proofs.GrammarLaws.pairs_from}
use Rattle.expr_forms.specs.{declared.operands.Subfield.Subfield, Joins.Operands.{IsSubfield, is_subfield, is_operand}}

-- where one subfield is no expression there is no operand
pub refused_one : (base : NumberBase) (subfields : List (List Piece)) → list_all (is_subfield base) subfields ≡ false → is_operand base subfields ≡ false
refused_one base [] h = cc
refused_one base (p ∷ []) h = by (is_subfield base p) h
  where
    by : (a : Bool) → (a && true) ≡ false → a ≡ false
    by true h = cc
    by false h = refl
refused_one base (p ∷ q ∷ []) h = by (is_subfield base p) (is_subfield base q) h
  where
    by : (a b : Bool) → (a && (b && true)) ≡ false → (a && b) ≡ false
    by true true h = cc
    by true false h = refl
    by false b h = refl
refused_one base (p ∷ q ∷ r ∷ []) h = by (is_subfield base p) (is_subfield base q) (is_subfield base r) h
  where
    by : (a b d : Bool) → (a && (b && (d && true))) ≡ false → (a && b && d) ≡ false
    by true true true h = cc
    by true true false h = refl
    by true false d h = refl
    by false b d h = refl
refused_one base (p ∷ q ∷ r ∷ s ∷ others) h = refl

-- a lawful subfield in front changes nothing of that
pub refused_behind : (base : NumberBase) (pieces : List Piece) (others : List (List Piece)) (subfield : Subfield) → IsSubfield base pieces subfield →
    list_all (is_subfield base) others ≡ false → list_all (is_subfield base) (pieces ∷ others) ≡ false
refused_behind base pieces others subfield is h =
    ap (λ (o : Option _). is_some o && list_all (is_subfield base) others) is.1 ∙ h

-- what is awaited: an operator, or an element behind one
abbrev read_at : NumberBase → Option Operator → List Piece → Option (List OperatorElement)
read_at base None pieces = pairs_of base 0 pieces
read_at base (Some o) pieces = pairs_from base o pieces

-- where an element is read in front of others, these are read
others-read : (o : Operator) (element : Option Element) (pairs : Option (List OperatorElement)) → is_some (onto_pairs o element pairs) ≡ true → is_some pairs ≡ true
others-read o None pairs e = cc
others-read o (Some element) None e = cc
others-read o (Some element) (Some pairs) e = refl

-- what is read as an expression has no comma, so it is one subfield
lone-read : (base : NumberBase) (awaited : Option Operator) (pieces : List Piece) → is_some (read_at base awaited pieces) ≡ true → subfields_of pieces ≡ pieces ∷ []
lone-read base None [] e = refl
lone-read base None (IsMark Plus ∷ pieces) e = ap (onto_first (IsMark Plus)) (lone-read base (Some Add) pieces e)
lone-read base None (IsMark Minus ∷ pieces) e = ap (onto_first (IsMark Minus)) (lone-read base (Some Subtract) pieces e)
lone-read base None (IsMark Star ∷ pieces) e = ap (onto_first (IsMark Star)) (lone-read base (Some Times) pieces e)
lone-read base None (IsMark Slash ∷ pieces) e = ap (onto_first (IsMark Slash)) (lone-read base (Some Divide) pieces e)
lone-read base None (piece ∷ pieces) e = cc
lone-read base (Some o) (Plain text ∷ pieces) e = ap (onto_first (Plain text)) (lone-read base None pieces (others-read o (element_of_text base text) (pairs_of base 0 pieces) e))
lone-read base (Some o) (IsCountedItem item ∷ pieces) e = ap (onto_first (IsCountedItem item)) (lone-read base None pieces (others-read o (Some (ACountedItem item)) (pairs_of base 0 pieces) e))
lone-read base (Some o) (IsMark Star ∷ Plain text ∷ pieces) e =
    ap (λ s. onto_first (IsMark Star) (onto_first (Plain text) s)) (lone-read base None pieces (others-read o (counter_of text) (pairs_of base 0 pieces) e))
lone-read base (Some o) (IsMark Star ∷ IsCountedItem item ∷ pieces) e = cc
lone-read base (Some o) (IsMark Star ∷ IsMark Equals ∷ pieces) e = cc
lone-read base (Some o) (IsMark Star ∷ pieces) e = ap (onto_first (IsMark Star)) (lone-read base None pieces (others-read o (Some LocationCounter) (pairs_of base 0 pieces) e))
lone-read base (Some o) (IsMark Equals ∷ Plain text ∷ pieces) e =
    ap (λ s. onto_first (IsMark Equals) (onto_first (Plain text) s)) (lone-read base None pieces (others-read o (literal_of NoSign (number_read base text)) (pairs_of base 0 pieces) e))
lone-read base (Some o) (IsMark Equals ∷ IsCountedItem item ∷ pieces) e =
    ap (λ s. onto_first (IsMark Equals) (onto_first (IsCountedItem item) s)) (lone-read base None pieces (others-read o (Some (ALiteral (OfCountedItem item))) (pairs_of base 0 pieces) e))
lone-read base (Some o) (IsMark Equals ∷ IsMark Plus ∷ Plain text ∷ pieces) e =
    ap (λ s. onto_first (IsMark Equals) (onto_first (IsMark Plus) (onto_first (Plain text) s))) (lone-read base None pieces (others-read o (literal_of PlusSign (number_read base text)) (pairs_of base 0 pieces) e))
lone-read base (Some o) (IsMark Equals ∷ IsMark Minus ∷ Plain text ∷ pieces) e =
    ap (λ s. onto_first (IsMark Equals) (onto_first (IsMark Minus) (onto_first (Plain text) s))) (lone-read base None pieces (others-read o (literal_of MinusSign (number_read base text)) (pairs_of base 0 pieces) e))
lone-read base (Some o) pieces e = cc

-- of an expression all elements are read
all-read : (sign : Sign) (pairs : Option (List OperatorElement)) (e : Expression) → with_sign sign pairs ≡ Some e → is_some pairs ≡ true
all-read sign None e h = cc
all-read sign (Some pairs) e h = refl

pub expression-lone : (base : NumberBase) (pieces : List Piece) (e : Expression) → expression_of base pieces ≡ Some e → subfields_of pieces ≡ pieces ∷ []
expression-lone base (IsMark Plus ∷ pieces) e h = lone-read base None (IsMark Plus ∷ pieces) (all-read PlusSign (pairs_of base 0 (IsMark Plus ∷ pieces)) e h)
expression-lone base (IsMark Minus ∷ pieces) e h = lone-read base None (IsMark Minus ∷ pieces) (all-read MinusSign (pairs_of base 0 (IsMark Minus ∷ pieces)) e h)
expression-lone base pieces e h = lone-read base (Some Add) pieces (all-read NoSign (pairs_from base Add pieces) e h)
