-- What `pairs_of` reads, as a relation: elements, each behind the mark of its operator.
use Rattle.std.{proofs.Common.{ℕ, ◌≡◌, inl, inr, List, [], ◌∷◌, ◌++◌, Option, Some, None, Bool, true, false, refl, sym, ◌∙◌, ap, subst, if◌then◌else◌}, specs.Prelude.{codes, option_map}}
use Rattle.definitions.{specs.Characters.same_text, proofs.TextLaws.same_text-true, specs.Pieces.{Mark, Plus, Minus, Star, Slash, Equals, Piece, IsMark, IsCountedItem, Plain}, specs.Symbols.{Register, register_of, is_symbol, Number, number_read}, specs.Expressions.{Sign, NoSign, PlusSign, MinusSign, OfNumber, OfCountedItem, Element, ANumber, ACountedItem, ASymbol, ARegister, LocationCounter, OriginCounter, ALiteral, Operator, Times, Divide, Add, Subtract, OperatorElement, element_of_name, element_of_text, counter_of, literal_of, element_at, onto_pairs, pairs_of}, specs.Laws.Grammar.{IsNumberText, IsSymbolText, sign_pieces, IsElement}, specs.declared.number_base.NumberBase.NumberBase}

-- an operator with the element that begins these pieces, and the pairs behind it
abbrev pub pairs_from : NumberBase → Operator → List Piece → Option (List OperatorElement)
pairs_from base operator pieces = onto_pairs operator (element_at base pieces).element (pairs_of base (element_at base pieces).taken pieces)

-- what is awaited: an operator, or an element behind an operator
data Awaited : Type 0 where
  AnOperator : Awaited
  ElementOf : Operator → Awaited

-- the pairs that are read there
abbrev read_at : NumberBase → Awaited → List Piece → Option (List OperatorElement)
read_at base AnOperator pieces = pairs_of base 0 pieces
read_at base (ElementOf operator) pieces = pairs_from base operator pieces

-- the pair with this operator and element
abbrev pub link_of : Operator → Element → OperatorElement
link_of operator element = record { operator = operator; element = element }

-- the mark that an operator is written with
abbrev pub mark_between : Operator → Mark
mark_between Times = Star
mark_between Divide = Slash
mark_between Add = Plus
mark_between Subtract = Minus

-- the pieces spell the pairs, each an operator's mark and an element
abbrev pub AreLinks : NumberBase → List OperatorElement → List Piece → Type 0
AreLinks base [] pieces = pieces ≡ []
AreLinks base (pair ∷ pairs) pieces =
    (front : List Piece) × (rest : List Piece) × (pieces ≡ IsMark (mark_between pair.operator) ∷ (front ++ rest))
    × IsElement base pair.element front × AreLinks base pairs rest

-- an element behind this operator, and pairs behind it
abbrev pub StartsWithElement : NumberBase → Operator → List OperatorElement → List Piece → Type 0
StartsWithElement base operator pairs pieces =
    (element : Element) × (more : List OperatorElement) × (front : List Piece) × (rest : List Piece)
    × (pairs ≡ link_of operator element ∷ more) × (pieces ≡ front ++ rest)
    × IsElement base element front × AreLinks base more rest

-- how the pieces spell the pairs that are read from them, by what is awaited
abbrev AreRead : NumberBase → Awaited → List OperatorElement → List Piece → Type 0
AreRead base AnOperator pairs pieces = AreLinks base pairs pieces
AreRead base (ElementOf operator) pairs pieces = StartsWithElement base operator pairs pieces

-- what is an element under one reading is it under an equal one
pub same_element : (base : NumberBase) (x y : Element) (pieces : List Piece) → Some x ≡ Some y → IsElement base x pieces → IsElement base y pieces
same_element base x y pieces e is = let same : x ≡ y = cc in subst (λ (z : Element). IsElement base z pieces) same is

-- a run that reads as a number is a number
pub number_is_element : (base : NumberBase) (text : List ℕ) (element : Element) → register_of text ≡ None → is_symbol text ≡ false →
    (n : Option Number) → number_read base text ≡ n → option_map ANumber n ≡ Some element → IsElement base element (Plain text ∷ [])
number_is_element base text element r s None n e = cc
number_is_element base text element r s (Some number) n e =
    same_element base (ANumber number) element (Plain text ∷ []) e (text, (r, s, n), refl)

-- a run that is no register is a symbol or a number
pub unregistered_is_element : (base : NumberBase) (text : List ℕ) (element : Element) → register_of text ≡ None →
    (s : Bool) → is_symbol text ≡ s → (if s then Some (ASymbol text) else option_map ANumber (number_read base text)) ≡ Some element →
    IsElement base element (Plain text ∷ [])
unregistered_is_element base text element r true s e =
    same_element base (ASymbol text) element (Plain text ∷ []) e (text, (r, s, refl), refl)
unregistered_is_element base text element r false s e =
    number_is_element base text element r s (number_read base text) refl e

-- a run that reads as an element is that element
pub run_is_element : (base : NumberBase) (text : List ℕ) (element : Element) (r : Option Register) → register_of text ≡ r →
    element_of_name base text r ≡ Some element → IsElement base element (Plain text ∷ [])
run_is_element base text element None r e = unregistered_is_element base text element r (is_symbol text) refl e
run_is_element base text element (Some register) r e =
    same_element base (ARegister register) element (Plain text ∷ []) e (text, r, refl)

-- a star with what reads behind it as a counter is that counter
pub counter_is_element : (base : NumberBase) (text : List ℕ) (element : Element) →
    (o : Bool) → same_text text (codes "O") ≡ o → (l : Bool) → same_text text (codes "L") ≡ l →
    (if o then Some OriginCounter else if l then Some LocationCounter else None) ≡ Some element →
    IsElement base element (IsMark Star ∷ Plain text ∷ [])
counter_is_element base text element true is_o l is_l e =
    let same : text ≡ codes "O" = same_text-true text (codes "O") is_o in
    same_element base OriginCounter element (IsMark Star ∷ Plain text ∷ []) e
    (ap (λ (t : List ℕ). IsMark Star ∷ Plain t ∷ []) same)
counter_is_element base text element false is_o true is_l e =
    let same : text ≡ codes "L" = same_text-true text (codes "L") is_l in
    same_element base LocationCounter element (IsMark Star ∷ Plain text ∷ []) e
    (inr (ap (λ (t : List ℕ). IsMark Star ∷ Plain t ∷ []) same))
counter_is_element base text element false is_o false is_l e = cc

-- an equals sign, a sign and a run that reads as a number are a literal
pub literal_is_element : (base : NumberBase) (sign : Sign) (text : List ℕ) (element : Element) →
    (n : Option Number) → number_read base text ≡ n → literal_of sign n ≡ Some element →
    IsElement base element (IsMark Equals ∷ (sign_pieces sign ++ Plain text ∷ []))
literal_is_element base sign text element None n e = cc
literal_is_element base sign text element (Some number) n e =
    same_element base (ALiteral (OfNumber sign number)) element (IsMark Equals ∷ (sign_pieces sign ++ Plain text ∷ [])) e (text, n, refl)

-- pairs that an element is put onto start with it
pub onto_pairs-starts : (base : NumberBase) (o : Operator) (front : List Piece) (x : Option Element) (rest : List Piece) (y : Option (List OperatorElement)) (pairs : List OperatorElement) →
    onto_pairs o x y ≡ Some pairs → ((element : Element) → x ≡ Some element → IsElement base element front) →
    ((more : List OperatorElement) → y ≡ Some more → AreLinks base more rest) → StartsWithElement base o pairs (front ++ rest)
onto_pairs-starts base o front None rest y pairs e is are = cc
onto_pairs-starts base o front (Some element) rest None pairs e is are = cc
onto_pairs-starts base o front (Some element) rest (Some more) pairs e is are =
    (element, more, front, rest, cc, refl, is element refl, are more refl)

-- an operator's mark and pairs that start with its element are pairs
pub mark_and_links : (base : NumberBase) (o : Operator) (pairs : List OperatorElement) (pieces : List Piece) →
    StartsWithElement base o pairs pieces → AreLinks base pairs (IsMark (mark_between o) ∷ pieces)
mark_and_links base o pairs pieces (element, more, front, rest, starts, spelt, is, are) =
    subst (λ (l : List OperatorElement). AreLinks base l (IsMark (mark_between o) ∷ pieces)) (sym starts)
    (front, rest, ap (λ (p : List Piece). IsMark (mark_between o) ∷ p) spelt, is, are)

-- what `pairs_of` reads is spelt by the pieces
read_is_spelt : (base : NumberBase) (awaited : Awaited) (pieces : List Piece) (pairs : List OperatorElement) →
    read_at base awaited pieces ≡ Some pairs → AreRead base awaited pairs pieces
read_is_spelt base AnOperator [] pairs e = let none : [] ≡ pairs = cc in subst (λ (l : List OperatorElement). AreLinks base l []) none refl
read_is_spelt base AnOperator (IsMark Plus ∷ pieces) pairs e = mark_and_links base Add pairs pieces (read_is_spelt base (ElementOf Add) pieces pairs e)
read_is_spelt base AnOperator (IsMark Minus ∷ pieces) pairs e = mark_and_links base Subtract pairs pieces (read_is_spelt base (ElementOf Subtract) pieces pairs e)
read_is_spelt base AnOperator (IsMark Star ∷ pieces) pairs e = mark_and_links base Times pairs pieces (read_is_spelt base (ElementOf Times) pieces pairs e)
read_is_spelt base AnOperator (IsMark Slash ∷ pieces) pairs e = mark_and_links base Divide pairs pieces (read_is_spelt base (ElementOf Divide) pieces pairs e)
read_is_spelt base AnOperator (piece ∷ pieces) pairs e = cc
read_is_spelt base (ElementOf o) (Plain text ∷ pieces) pairs e =
    onto_pairs-starts base o (Plain text ∷ []) (element_of_text base text) pieces (pairs_of base 0 pieces) pairs e
    (λ (element : Element). run_is_element base text element (register_of text) refl) (read_is_spelt base AnOperator pieces)
read_is_spelt base (ElementOf o) (IsCountedItem item ∷ pieces) pairs e =
    onto_pairs-starts base o (IsCountedItem item ∷ []) (Some (ACountedItem item)) pieces (pairs_of base 0 pieces) pairs e
    (λ (element : Element) same. same_element base (ACountedItem item) element (IsCountedItem item ∷ []) same refl) (read_is_spelt base AnOperator pieces)
read_is_spelt base (ElementOf o) (IsMark Star ∷ Plain text ∷ pieces) pairs e =
    onto_pairs-starts base o (IsMark Star ∷ Plain text ∷ []) (counter_of text) pieces (pairs_of base 0 pieces) pairs e
    (λ (element : Element). counter_is_element base text element (same_text text (codes "O")) refl (same_text text (codes "L")) refl) (read_is_spelt base AnOperator pieces)
read_is_spelt base (ElementOf o) (IsMark Star ∷ IsCountedItem item ∷ pieces) pairs e = cc
read_is_spelt base (ElementOf o) (IsMark Star ∷ IsMark Equals ∷ pieces) pairs e = cc
read_is_spelt base (ElementOf o) (IsMark Star ∷ pieces) pairs e =
    onto_pairs-starts base o (IsMark Star ∷ []) (Some LocationCounter) pieces (pairs_of base 0 pieces) pairs e
    (λ (element : Element) same. same_element base LocationCounter element (IsMark Star ∷ []) same (inl refl)) (read_is_spelt base AnOperator pieces)
read_is_spelt base (ElementOf o) (IsMark Equals ∷ Plain text ∷ pieces) pairs e =
    onto_pairs-starts base o (IsMark Equals ∷ Plain text ∷ []) (literal_of NoSign (number_read base text)) pieces (pairs_of base 0 pieces) pairs e
    (λ (element : Element). literal_is_element base NoSign text element (number_read base text) refl) (read_is_spelt base AnOperator pieces)
read_is_spelt base (ElementOf o) (IsMark Equals ∷ IsCountedItem item ∷ pieces) pairs e =
    onto_pairs-starts base o (IsMark Equals ∷ IsCountedItem item ∷ []) (Some (ALiteral (OfCountedItem item))) pieces (pairs_of base 0 pieces) pairs e
    (λ (element : Element) same. same_element base (ALiteral (OfCountedItem item)) element (IsMark Equals ∷ IsCountedItem item ∷ []) same refl) (read_is_spelt base AnOperator pieces)
read_is_spelt base (ElementOf o) (IsMark Equals ∷ IsMark Plus ∷ Plain text ∷ pieces) pairs e =
    onto_pairs-starts base o (IsMark Equals ∷ IsMark Plus ∷ Plain text ∷ []) (literal_of PlusSign (number_read base text)) pieces (pairs_of base 0 pieces) pairs e
    (λ (element : Element). literal_is_element base PlusSign text element (number_read base text) refl) (read_is_spelt base AnOperator pieces)
read_is_spelt base (ElementOf o) (IsMark Equals ∷ IsMark Minus ∷ Plain text ∷ pieces) pairs e =
    onto_pairs-starts base o (IsMark Equals ∷ IsMark Minus ∷ Plain text ∷ []) (literal_of MinusSign (number_read base text)) pieces (pairs_of base 0 pieces) pairs e
    (λ (element : Element). literal_is_element base MinusSign text element (number_read base text) refl) (read_is_spelt base AnOperator pieces)
read_is_spelt base (ElementOf o) pieces pairs e = cc

pub pairs_of-read : (base : NumberBase) (pieces : List Piece) (pairs : List OperatorElement) → pairs_of base 0 pieces ≡ Some pairs → AreLinks base pairs pieces
pairs_of-read base pieces pairs e = read_is_spelt base AnOperator pieces pairs e

pub pairs_from-read : (base : NumberBase) (o : Operator) (pieces : List Piece) (pairs : List OperatorElement) → pairs_from base o pieces ≡ Some pairs → StartsWithElement base o pairs pieces
pairs_from-read base o pieces pairs e = read_is_spelt base (ElementOf o) pieces pairs e

-- what may stand behind an element: nothing, or a mark but an equals sign
abbrev pub EndsElement : List Piece → Type 0
EndsElement [] = Unit {0}
EndsElement (IsMark Equals ∷ pieces) = ⊥
EndsElement (IsMark mark ∷ pieces) = Unit {0}
EndsElement (piece ∷ pieces) = ⊥

-- an operator's mark ends the element before it
pub mark_between-ends : (o : Operator) (pieces : List Piece) → EndsElement (IsMark (mark_between o) ∷ pieces)
mark_between-ends Times pieces = tt
mark_between-ends Divide pieces = tt
mark_between-ends Add pieces = tt
mark_between-ends Subtract pieces = tt

-- pairs end the element before them
pub AreLinks-end : (base : NumberBase) (pairs : List OperatorElement) (pieces : List Piece) → AreLinks base pairs pieces → EndsElement pieces
AreLinks-end base [] pieces none = subst EndsElement (sym none) tt
AreLinks-end base (pair ∷ pairs) pieces (front, rest, spelt, is, are) =
    subst EndsElement (sym spelt) (mark_between-ends pair.operator (front ++ rest))

-- a star with nothing but an operator behind it reads as the location counter
pub pairs_from-star : (base : NumberBase) (o : Operator) (rest : List Piece) → EndsElement rest →
    pairs_from base o (IsMark Star ∷ rest) ≡ onto_pairs o (Some LocationCounter) (pairs_of base 0 rest)
pairs_from-star base o [] ends = refl
pairs_from-star base o (IsMark Equals ∷ rest) ends = absurd ends
pairs_from-star base o (IsMark mark ∷ rest) ends = refl
pairs_from-star base o (piece ∷ rest) ends = absurd ends

-- a number run reads as its number
pub element_of_text-number : (base : NumberBase) (text : List ℕ) (number : Number) → IsNumberText base text number →
    element_of_text base text ≡ Some (ANumber number)
element_of_text-number base text number (r, s, n) =
    ap (element_of_name base text) r
    ∙ (ap (λ (b : Bool). if b then Some (ASymbol text) else option_map ANumber (number_read base text)) s
    ∙ ap (option_map ANumber) n)

-- a symbol run reads as its symbol
pub element_of_text-symbol : (base : NumberBase) (text name : List ℕ) → IsSymbolText text name →
    element_of_text base text ≡ Some (ASymbol name)
element_of_text-symbol base text name (r, s, same) =
    ap (element_of_name base text) r
    ∙ (ap (λ (b : Bool). if b then Some (ASymbol text) else option_map ANumber (number_read base text)) s
    ∙ ap (λ (t : List ℕ). Some (ASymbol t)) (sym same))

-- a literal's pieces read as the literal
pub pairs_from-literal : (base : NumberBase) (o : Operator) (sign : Sign) (text : List ℕ) (number : Number) (rest : List Piece) →
    number_read base text ≡ Some number →
    pairs_from base o ((IsMark Equals ∷ (sign_pieces sign ++ Plain text ∷ [])) ++ rest)
    ≡ onto_pairs o (Some (ALiteral (OfNumber sign number))) (pairs_of base 0 rest)
pairs_from-literal base o NoSign text number rest n = ap (λ (m : Option Number). onto_pairs o (literal_of NoSign m) (pairs_of base 0 rest)) n
pairs_from-literal base o PlusSign text number rest n = ap (λ (m : Option Number). onto_pairs o (literal_of PlusSign m) (pairs_of base 0 rest)) n
pairs_from-literal base o MinusSign text number rest n = ap (λ (m : Option Number). onto_pairs o (literal_of MinusSign m) (pairs_of base 0 rest)) n

-- an element's pieces read as the element, in front of what may stand behind it
pub pairs_from-element : (base : NumberBase) (o : Operator) (element : Element) (front rest : List Piece) → IsElement base element front → EndsElement rest →
    pairs_from base o (front ++ rest) ≡ onto_pairs o (Some element) (pairs_of base 0 rest)
pairs_from-element base o (ANumber number) front rest (text, run, spelt) ends =
    ap (λ (p : List Piece). pairs_from base o (p ++ rest)) spelt
    ∙ ap (λ (x : Option Element). onto_pairs o x (pairs_of base 0 rest)) (element_of_text-number base text number run)
pairs_from-element base o (ACountedItem item) front rest spelt ends = ap (λ (p : List Piece). pairs_from base o (p ++ rest)) spelt
pairs_from-element base o (ASymbol name) front rest (text, run, spelt) ends =
    ap (λ (p : List Piece). pairs_from base o (p ++ rest)) spelt
    ∙ ap (λ (x : Option Element). onto_pairs o x (pairs_of base 0 rest)) (element_of_text-symbol base text name run)
pairs_from-element base o (ARegister register) front rest (text, r, spelt) ends =
    ap (λ (p : List Piece). pairs_from base o (p ++ rest)) spelt
    ∙ ap (λ (x : Option Register). onto_pairs o (element_of_name base text x) (pairs_of base 0 rest)) r
pairs_from-element base o LocationCounter front rest (inl spelt) ends =
    ap (λ (p : List Piece). pairs_from base o (p ++ rest)) spelt ∙ pairs_from-star base o rest ends
pairs_from-element base o LocationCounter front rest (inr spelt) ends = ap (λ (p : List Piece). pairs_from base o (p ++ rest)) spelt
pairs_from-element base o OriginCounter front rest spelt ends = ap (λ (p : List Piece). pairs_from base o (p ++ rest)) spelt
pairs_from-element base o (ALiteral (OfNumber sign number)) front rest (text, n, spelt) ends =
    ap (λ (p : List Piece). pairs_from base o (p ++ rest)) spelt ∙ pairs_from-literal base o sign text number rest n
pairs_from-element base o (ALiteral (OfCountedItem item)) front rest spelt ends = ap (λ (p : List Piece). pairs_from base o (p ++ rest)) spelt

-- behind an operator's mark its element is awaited
pub pairs_of-mark : (base : NumberBase) (o : Operator) (pieces : List Piece) →
    pairs_of base 0 (IsMark (mark_between o) ∷ pieces) ≡ pairs_from base o pieces
pairs_of-mark base Times pieces = refl
pairs_of-mark base Divide pieces = refl
pairs_of-mark base Add pieces = refl
pairs_of-mark base Subtract pieces = refl

-- the pieces of an element and of the pairs behind it read as these
pub pairs_from-start : (base : NumberBase) (o : Operator) (element : Element) (pairs : List OperatorElement) (front rest : List Piece) →
    IsElement base element front → AreLinks base pairs rest → pairs_of base 0 rest ≡ Some pairs →
    pairs_from base o (front ++ rest) ≡ Some (link_of o element ∷ pairs)
pairs_from-start base o element pairs front rest is are e =
    pairs_from-element base o element front rest is (AreLinks-end base pairs rest are) ∙ ap (onto_pairs o (Some element)) e

-- the pieces of pairs read as the pairs
pub pairs_of-spelt : (base : NumberBase) (pairs : List OperatorElement) (pieces : List Piece) → AreLinks base pairs pieces →
    pairs_of base 0 pieces ≡ Some pairs
pairs_of-spelt base [] pieces none = ap (pairs_of base 0) none
pairs_of-spelt base (pair ∷ pairs) pieces (front, rest, spelt, is, are) =
    ap (pairs_of base 0) spelt
    ∙ (pairs_of-mark base pair.operator (front ++ rest)
    ∙ pairs_from-start base pair.operator pair.element pairs front rest is are (pairs_of-spelt base pairs rest are))
