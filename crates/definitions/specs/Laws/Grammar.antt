-- The grammar of expressions over pieces (COMPASS 60492600, address expressions): what `expression_of` reads.
--   expression = ["+" | "-"] term { ("+" | "-") term }
--   term = element { ("*" | "/") element }
--   element = number | item | symbol | register | "*" | "*L" | "*O" | literal
--   literal = "=" ["+" | "-"] number | "=" item
use Rattle.std.specs.Prelude.{ℕ, ◌≡◌, ◌⊎◌, List, [], ◌∷◌, ◌++◌, Some, None, true, false, codes}
use Rattle.definitions.specs.{Pieces.{Mark, Plus, Minus, Star, Slash, Equals, Piece, IsMark, IsCountedItem, Plain}, Symbols.{register_of, is_symbol, Number, number_read}, Expressions.{Sign, NoSign, PlusSign, MinusSign, Literal, OfNumber, OfCountedItem, Element, ANumber, ACountedItem, ASymbol, ARegister, LocationCounter, OriginCounter, ALiteral, Operator, Times, Divide, Add, Subtract, OperatorElement, Term, Expression}, declared.number_base.NumberBase.NumberBase}

-- a run that is no register and no symbol, and spells this number
abbrev pub IsNumberText : NumberBase → List ℕ → Number → Type 0
IsNumberText base text number = (register_of text ≡ None) × (is_symbol text ≡ false) × (number_read base text ≡ Some number)

-- a run that is a symbol, and that symbol's name
abbrev pub IsSymbolText : List ℕ → List ℕ → Type 0
IsSymbolText text name = (register_of text ≡ None) × (is_symbol text ≡ true) × (name ≡ text)

-- the sign in front of an expression, or of a literal's number
abbrev pub sign_pieces : Sign → List Piece
sign_pieces NoSign = []
sign_pieces PlusSign = IsMark Plus ∷ []
sign_pieces MinusSign = IsMark Minus ∷ []

-- the pieces spell the literal: an equals sign, and a number with its sign or an item behind it
abbrev pub IsLiteral : NumberBase → Literal → List Piece → Type 0
IsLiteral base (OfNumber sign number) pieces = (text : List ℕ) × (number_read base text ≡ Some number) × (pieces ≡ IsMark Equals ∷ (sign_pieces sign ++ Plain text ∷ []))
IsLiteral base (OfCountedItem item) pieces = pieces ≡ IsMark Equals ∷ IsCountedItem item ∷ []

-- the pieces spell the element
abbrev pub IsElement : NumberBase → Element → List Piece → Type 0
IsElement base (ANumber number) pieces = (text : List ℕ) × IsNumberText base text number × (pieces ≡ Plain text ∷ [])
IsElement base (ACountedItem item) pieces = pieces ≡ IsCountedItem item ∷ []
IsElement base (ASymbol name) pieces = (text : List ℕ) × IsSymbolText text name × (pieces ≡ Plain text ∷ [])
IsElement base (ARegister register) pieces = (text : List ℕ) × (register_of text ≡ Some register) × (pieces ≡ Plain text ∷ [])
IsElement base LocationCounter pieces = (pieces ≡ IsMark Star ∷ []) ⊎ (pieces ≡ IsMark Star ∷ Plain (codes "L") ∷ [])
IsElement base OriginCounter pieces = pieces ≡ IsMark Star ∷ Plain (codes "O") ∷ []
IsElement base (ALiteral literal) pieces = IsLiteral base literal pieces

-- the mark of an operator between factors, and between terms
abbrev pub IsFactorMark : Operator → Mark → Type 0
IsFactorMark Times mark = mark ≡ Star
IsFactorMark Divide mark = mark ≡ Slash
IsFactorMark _ mark = ⊥

-- plus adds a term, minus subtracts one
abbrev pub IsTermMark : Operator → Mark → Type 0
IsTermMark Add mark = mark ≡ Plus
IsTermMark Subtract mark = mark ≡ Minus
IsTermMark _ mark = ⊥

-- the pieces spell factors, each behind its star or slash
abbrev pub AreFactors : NumberBase → List OperatorElement → List Piece → Type 0
AreFactors base [] pieces = pieces ≡ []
AreFactors base (pair ∷ pairs) pieces =
    (mark : Mark) × (front : List Piece) × (rest : List Piece) × (pieces ≡ IsMark mark ∷ (front ++ rest))
    × IsFactorMark pair.operator mark × IsElement base pair.element front × AreFactors base pairs rest

-- an element with its factors
abbrev pub IsTerm : NumberBase → Term → List Piece → Type 0
IsTerm base term pieces = (front : List Piece) × (rest : List Piece) × (pieces ≡ front ++ rest) × IsElement base term.element front × AreFactors base term.factors rest

-- the terms behind the first, each with its sign
abbrev pub AreTerms : NumberBase → List Term → List Piece → Type 0
AreTerms base [] pieces = pieces ≡ []
AreTerms base (term ∷ terms) pieces =
    (mark : Mark) × (front : List Piece) × (rest : List Piece) × (pieces ≡ IsMark mark ∷ (front ++ rest))
    × IsTermMark term.operator mark × IsTerm base term front × AreTerms base terms rest

-- a first term without a sign, or with one, is added; with a minus it is subtracted
abbrev pub operator_of : Sign → Operator
operator_of MinusSign = Subtract
operator_of sign = Add

-- the pieces of a subfield spell the expression
abbrev pub Spells : NumberBase → Expression → List Piece → Type 0
Spells base e pieces =
    (first : Term) × (others : List Term) × (front : List Piece) × (rest : List Piece)
    × (e.terms ≡ first ∷ others) × (first.operator ≡ operator_of e.sign)
    × (pieces ≡ sign_pieces e.sign ++ (front ++ rest)) × IsTerm base first front × AreTerms base others rest
