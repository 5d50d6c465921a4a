-- `expression_of` against the grammar: what is read is spelt, and what is spelt is read.
use Rattle.std.{proofs.Common.{◌≡◌, inl, inr, List, [], ◌∷◌, ◌++◌, Option, Some, None, refl, sym, ◌∙◌, ap, subst, append_assoc}, specs.Prelude.codes}
use Rattle.definitions.{specs.Pieces.{Plus, Minus, Star, Equals, Piece, IsMark, IsCountedItem, Plain}, specs.Expressions.{Sign, NoSign, PlusSign, MinusSign, OfNumber, OfCountedItem, Element, ANumber, ACountedItem, ASymbol, ARegister, LocationCounter, OriginCounter, ALiteral, Operator, Add, Subtract, OperatorElement, Term, Expression, Grouped, grouped, with_sign, expression_of}, specs.Laws.Grammar.{sign_pieces, IsElement, operator_of, Spells}, specs.declared.number_base.NumberBase.NumberBase, proofs.GrammarLaws.{AreLinks, StartsWithElement, pairs_from-read, pairs_of-spelt, pairs_from-start, pairs_from}, proofs.TermLaws.{JoinsTerms, AreJoined, links_in, term_of, IsGrouping, grouped-groups, onto_grouped-term, grouped-links_in, pieces_before, AreFactors-pairs, AreFactors-joined, AreLinks-factors, AreTerms-pairs, AreTerms-joined, AreLinks-terms}}

-- the expression with this sign and these terms
abbrev pub expression_with : Sign → List Term → Expression
expression_with sign terms = record { sign = sign; terms = terms }

-- the first term is added or subtracted
pub operator_of-joins : (sign : Sign) → JoinsTerms (operator_of sign)
operator_of-joins NoSign = tt
operator_of-joins PlusSign = tt
operator_of-joins MinusSign = tt

-- pairs that start with a term's element make terms that are spelt behind the sign
pub Spells-grouped : (base : NumberBase) (sign : Sign) (pairs : List OperatorElement) (pieces : List Piece) (e : Expression) →
    StartsWithElement base (operator_of sign) pairs pieces → with_sign sign (Some pairs) ≡ Some e → Spells base e (sign_pieces sign ++ pieces)
Spells-grouped base sign pairs pieces e (element, more, front, rest, starts, split, is, are) read =
    let made : IsGrouping (grouped more) more = grouped-groups more in
    let others : List Term = (grouped more).terms in
    let first : Term = term_of (operator_of sign) element (grouped more).factors in
    let same : expression_with sign (grouped pairs).terms ≡ e = cc in
    let start : (grouped pairs).terms ≡ first ∷ others =
    ap (λ (l : List OperatorElement). (grouped l).terms) starts
    ∙ ap (λ (group : Grouped). group.terms) (onto_grouped-term element (operator_of sign) (grouped more) (operator_of-joins sign)) in
    let part = AreLinks-factors base (grouped more).factors (links_in others) rest made.0 (subst (λ (l : List OperatorElement). AreLinks base l rest) made.2 are) in (
      first,
      others,
      front ++ part.0,
      part.1,
      ap (λ (x : Expression). x.terms) (sym same) ∙ start,
      ap (λ (x : Expression). operator_of x.sign) same,
      ap (λ (p : List Piece). sign_pieces sign ++ p) (split ∙ pieces_before front rest part.0 part.1 part.2)
          ∙ ap (λ (x : Expression). sign_pieces x.sign ++ ((front ++ part.0) ++ part.1)) same,
      (front, part.0, refl, is, part.3),
      AreLinks-terms base others part.1 made.1 part.4,
    )

-- what is read behind a sign is spelt behind it
pub Spells-with_sign : (base : NumberBase) (sign : Sign) (pieces : List Piece) (e : Expression) (read : Option (List OperatorElement)) →
    pairs_from base (operator_of sign) pieces ≡ read → with_sign sign read ≡ Some e → Spells base e (sign_pieces sign ++ pieces)
Spells-with_sign base sign pieces e None pairs expression = cc
Spells-with_sign base sign pieces e (Some l) pairs expression =
    Spells-grouped base sign l pieces e (pairs_from-read base (operator_of sign) pieces l pairs) expression

-- what is read is spelt
pub Spells-expression_of : (base : NumberBase) (pieces : List Piece) (e : Expression) → expression_of base pieces ≡ Some e → Spells base e pieces
Spells-expression_of base (IsMark Plus ∷ pieces) e read = Spells-with_sign base PlusSign pieces e (pairs_from base Add pieces) refl read
Spells-expression_of base (IsMark Minus ∷ pieces) e read = Spells-with_sign base MinusSign pieces e (pairs_from base Subtract pieces) refl read
Spells-expression_of base pieces e read = Spells-with_sign base NoSign pieces e (pairs_from base Add pieces) refl read

-- pieces that are spelt like pieces without a sign are read without one
pub without_sign : (base : NumberBase) (other front rest : List Piece) → front ≡ other →
    expression_of base (other ++ rest) ≡ with_sign NoSign (pairs_from base Add (other ++ rest)) →
    expression_of base (front ++ rest) ≡ with_sign NoSign (pairs_from base Add (front ++ rest))
without_sign base other front rest spelt read =
    subst (λ (p : List Piece). expression_of base (p ++ rest) ≡ with_sign NoSign (pairs_from base Add (p ++ rest))) (sym spelt) read

-- an element begins with no sign
pub expression_of-element : (base : NumberBase) (element : Element) (front rest : List Piece) → IsElement base element front →
    expression_of base (front ++ rest) ≡ with_sign NoSign (pairs_from base Add (front ++ rest))
expression_of-element base (ANumber number) front rest (text, run, spelt) = without_sign base (Plain text ∷ []) front rest spelt refl
expression_of-element base (ACountedItem item) front rest spelt = without_sign base (IsCountedItem item ∷ []) front rest spelt refl
expression_of-element base (ASymbol name) front rest (text, run, spelt) = without_sign base (Plain text ∷ []) front rest spelt refl
expression_of-element base (ARegister register) front rest (text, run, spelt) = without_sign base (Plain text ∷ []) front rest spelt refl
expression_of-element base LocationCounter front rest (inl spelt) = without_sign base (IsMark Star ∷ []) front rest spelt refl
expression_of-element base LocationCounter front rest (inr spelt) = without_sign base (IsMark Star ∷ Plain (codes "L") ∷ []) front rest spelt refl
expression_of-element base OriginCounter front rest spelt = without_sign base (IsMark Star ∷ Plain (codes "O") ∷ []) front rest spelt refl
expression_of-element base (ALiteral (OfNumber sign number)) front rest (text, n, spelt) =
    without_sign base (IsMark Equals ∷ (sign_pieces sign ++ Plain text ∷ [])) front rest spelt refl
expression_of-element base (ALiteral (OfCountedItem item)) front rest spelt = without_sign base (IsMark Equals ∷ IsCountedItem item ∷ []) front rest spelt refl

-- an expression is read behind its sign
pub expression_of-signed : (base : NumberBase) (sign : Sign) (element : Element) (front rest : List Piece) → IsElement base element front →
    expression_of base (sign_pieces sign ++ (front ++ rest)) ≡ with_sign sign (pairs_from base (operator_of sign) (front ++ rest))
expression_of-signed base NoSign element front rest is = expression_of-element base element front rest is
expression_of-signed base PlusSign element front rest is = refl
expression_of-signed base MinusSign element front rest is = refl

-- what is spelt is read
pub expression_of-spelt : (base : NumberBase) (pieces : List Piece) (e : Expression) → Spells base e pieces → expression_of base pieces ≡ Some e
expression_of-spelt base pieces e (first, others, front, rest, terms, operator, spelt, (start, more, split, is, factors), are) =
    let pairs : AreLinks base (first.factors ++ links_in others) (more ++ rest) =
    AreFactors-pairs base first.factors (links_in others) more rest factors (AreTerms-pairs base others rest are) in
    let read : pairs_from base (operator_of e.sign) (start ++ (more ++ rest)) ≡ Some (links_in (first ∷ others)) =
    subst (λ (o : Operator). pairs_from base o (start ++ (more ++ rest)) ≡ Some (links_in (first ∷ others))) operator
    (pairs_from-start base first.operator first.element (first.factors ++ links_in others) start (more ++ rest) is pairs
    (pairs_of-spelt base (first.factors ++ links_in others) (more ++ rest) pairs)) in
    let joined : AreJoined (first ∷ others) =
    (subst JoinsTerms (sym operator) (operator_of-joins e.sign), AreFactors-joined base first.factors more factors, AreTerms-joined base others rest are) in
    let whole : pieces ≡ sign_pieces e.sign ++ (start ++ (more ++ rest)) =
    spelt ∙ ap (λ (p : List Piece). sign_pieces e.sign ++ p) (ap (λ (p : List Piece). p ++ rest) split ∙ append_assoc start more rest) in
    ap (expression_of base) whole
    ∙ (expression_of-signed base e.sign first.element start (more ++ rest) is
    ∙ (ap (with_sign e.sign) read
    ∙ (ap (λ (group : Grouped). Some (expression_with e.sign group.terms)) (grouped-links_in (first ∷ others) joined)
    ∙ ap (λ (l : List Term). Some (expression_with e.sign l)) (sym terms))))
