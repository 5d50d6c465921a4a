-- How `grouped` makes terms of pairs, and that the grammar's terms are pairs.
use Rattle.std.proofs.{Common.{◌≡◌, List, [], ◌∷◌, ◌++◌, refl, sym, ◌∙◌, ap, subst, append_assoc}, lemmas.List.append-nil}
use Rattle.definitions.{specs.Pieces.{Mark, Piece, IsMark}, specs.Expressions.{Element, Operator, Times, Divide, Add, Subtract, OperatorElement, Term, Grouped, onto_grouped, grouped}, specs.Laws.Grammar.{IsFactorMark, IsTermMark, AreFactors, AreTerms}, specs.declared.number_base.NumberBase.NumberBase, proofs.GrammarLaws.{link_of, mark_between, AreLinks}}

-- an operator that stands between factors
abbrev pub JoinsFactors : Operator → Type 0
JoinsFactors Times = Unit {0}
JoinsFactors Divide = Unit {0}
JoinsFactors Add = ⊥
JoinsFactors Subtract = ⊥

-- an operator that stands between terms
abbrev pub JoinsTerms : Operator → Type 0
JoinsTerms Times = ⊥
JoinsTerms Divide = ⊥
JoinsTerms Add = Unit {0}
JoinsTerms Subtract = Unit {0}

-- each pair has an operator that stands between factors
abbrev pub AreFactorLinks : List OperatorElement → Type 0
AreFactorLinks [] = Unit {0}
AreFactorLinks (pair ∷ pairs) = JoinsFactors pair.operator × AreFactorLinks pairs

-- each term and factor has an operator of its kind
abbrev pub AreJoined : List Term → Type 0
AreJoined [] = Unit {0}
AreJoined (term ∷ terms) = JoinsTerms term.operator × AreFactorLinks term.factors × AreJoined terms

-- the pairs that terms are made of
abbrev pub links_in : List Term → List OperatorElement
links_in [] = []
links_in (term ∷ terms) = link_of term.operator term.element ∷ (term.factors ++ links_in terms)

-- the grouping with these factors and terms
abbrev pub grouped_as : List OperatorElement → List Term → Grouped
grouped_as factors terms = record { factors = factors; terms = terms }

-- the term with this operator, element and factors
abbrev pub term_of : Operator → Element → List OperatorElement → Term
term_of operator element factors = record { operator = operator; element = element; factors = factors }

-- the factors and terms are joined, and made of these pairs
abbrev pub IsGrouping : Grouped → List OperatorElement → Type 0
IsGrouping group pairs = AreFactorLinks group.factors × AreJoined group.terms × (pairs ≡ group.factors ++ links_in group.terms)

-- a pair in front of a grouping makes a grouping
pub onto_grouped-groups : (pair : OperatorElement) (o : Operator) (group : Grouped) (pairs : List OperatorElement) → pair.operator ≡ o → IsGrouping group pairs →
    IsGrouping (onto_grouped pair o group) (pair ∷ pairs)
onto_grouped-groups pair Times group pairs same (factors, terms, made) = ((subst JoinsFactors (sym same) tt, factors), terms, ap (λ (l : List OperatorElement). pair ∷ l) made)
onto_grouped-groups pair Divide group pairs same (factors, terms, made) = ((subst JoinsFactors (sym same) tt, factors), terms, ap (λ (l : List OperatorElement). pair ∷ l) made)
onto_grouped-groups pair Add group pairs same (factors, terms, made) =
    (tt, (tt, factors, terms), ap (λ (o : Operator). link_of o pair.element ∷ pairs) same ∙ ap (λ (l : List OperatorElement). link_of Add pair.element ∷ l) made)
onto_grouped-groups pair Subtract group pairs same (factors, terms, made) =
    (tt, (tt, factors, terms), ap (λ (o : Operator). link_of o pair.element ∷ pairs) same ∙ ap (λ (l : List OperatorElement). link_of Subtract pair.element ∷ l) made)

-- what pairs are grouped to is made of the pairs
pub grouped-groups : (pairs : List OperatorElement) → IsGrouping (grouped pairs) pairs
grouped-groups [] = (tt, tt, refl)
grouped-groups (pair ∷ pairs) = onto_grouped-groups pair pair.operator (grouped pairs) pairs refl (grouped-groups pairs)

-- a factor goes to the factors
pub onto_grouped-factor : (pair : OperatorElement) (o : Operator) (group : Grouped) → JoinsFactors o →
    onto_grouped pair o group ≡ grouped_as (pair ∷ group.factors) group.terms
onto_grouped-factor pair Times group joins = refl
onto_grouped-factor pair Divide group joins = refl
onto_grouped-factor pair Add group joins = absurd joins
onto_grouped-factor pair Subtract group joins = absurd joins

-- a term takes the factors
pub onto_grouped-term : (element : Element) (o : Operator) (group : Grouped) → JoinsTerms o →
    onto_grouped (link_of o element) o group ≡ grouped_as [] (term_of o element group.factors ∷ group.terms)
onto_grouped-term element Times group joins = absurd joins
onto_grouped-term element Divide group joins = absurd joins
onto_grouped-term element Add group joins = refl
onto_grouped-term element Subtract group joins = refl

-- factors in front of pairs go in front of their factors
pub grouped-factors : (factors pairs : List OperatorElement) → AreFactorLinks factors →
    grouped (factors ++ pairs) ≡ grouped_as (factors ++ (grouped pairs).factors) (grouped pairs).terms
grouped-factors [] pairs joins = refl
grouped-factors (pair ∷ factors) pairs (joins, more) =
    ap (onto_grouped pair pair.operator) (grouped-factors factors pairs more)
    ∙ onto_grouped-factor pair pair.operator (grouped_as (factors ++ (grouped pairs).factors) (grouped pairs).terms) joins

-- the pairs of terms group to the terms
pub grouped-links_in : (terms : List Term) → AreJoined terms → grouped (links_in terms) ≡ grouped_as [] terms
grouped-links_in [] joined = refl
grouped-links_in (term ∷ terms) (joins, factors, joined) =
    ap (onto_grouped (link_of term.operator term.element) term.operator)
    (grouped-factors term.factors (links_in terms) factors
    ∙ (ap (λ (group : Grouped). grouped_as (term.factors ++ group.factors) group.terms) (grouped-links_in terms joined)
    ∙ ap (λ (l : List OperatorElement). grouped_as l terms) (append-nil term.factors)))
    ∙ onto_grouped-term term.element term.operator (grouped_as term.factors terms) joins

-- the mark of a factor's operator is the operator's mark
pub IsFactorMark-is : (o : Operator) (mark : Mark) → IsFactorMark o mark → mark ≡ mark_between o
IsFactorMark-is Times mark is = is
IsFactorMark-is Divide mark is = is
IsFactorMark-is Add mark is = absurd is
IsFactorMark-is Subtract mark is = absurd is

-- the mark of a term's operator is the operator's mark
pub IsTermMark-is : (o : Operator) (mark : Mark) → IsTermMark o mark → mark ≡ mark_between o
IsTermMark-is Times mark is = absurd is
IsTermMark-is Divide mark is = absurd is
IsTermMark-is Add mark is = is
IsTermMark-is Subtract mark is = is

-- an operator with a mark between terms joins terms
pub IsTermMark-joins : (o : Operator) (mark : Mark) → IsTermMark o mark → JoinsTerms o
IsTermMark-joins Times mark is = is
IsTermMark-joins Divide mark is = is
IsTermMark-joins Add mark is = tt
IsTermMark-joins Subtract mark is = tt

-- an operator with a mark between factors joins factors
pub IsFactorMark-joins : (o : Operator) (mark : Mark) → IsFactorMark o mark → JoinsFactors o
IsFactorMark-joins Times mark is = tt
IsFactorMark-joins Divide mark is = tt
IsFactorMark-joins Add mark is = is
IsFactorMark-joins Subtract mark is = is

-- an operator that joins factors has a factor's mark
pub mark_between-factor : (o : Operator) → JoinsFactors o → IsFactorMark o (mark_between o)
mark_between-factor Times joins = refl
mark_between-factor Divide joins = refl
mark_between-factor Add joins = joins
mark_between-factor Subtract joins = joins

-- an operator that joins terms has a term's mark
pub mark_between-term : (o : Operator) → JoinsTerms o → IsTermMark o (mark_between o)
mark_between-term Times joins = joins
mark_between-term Divide joins = joins
mark_between-term Add joins = refl
mark_between-term Subtract joins = refl

-- what follows pieces in two parts follows the second
pub pieces_behind : (pieces front rest more : List Piece) (mark other : Mark) → pieces ≡ IsMark mark ∷ (front ++ rest) → mark ≡ other →
    pieces ++ more ≡ IsMark other ∷ (front ++ (rest ++ more))
pieces_behind pieces front rest more mark other spelt same =
    ap (λ (p : List Piece). p ++ more) spelt
    ∙ (ap (λ (p : List Piece). IsMark mark ∷ p) (append_assoc front rest more)
    ∙ ap (λ (m : Mark). IsMark m ∷ (front ++ (rest ++ more))) same)

-- pieces whose second part is in two parts have the first of these in front
pub pieces_before : (front rest first second : List Piece) → rest ≡ first ++ second → front ++ rest ≡ (front ++ first) ++ second
pieces_before front rest first second split = ap (λ (p : List Piece). front ++ p) split ∙ sym (append_assoc front first second)

-- factors with pairs behind them are pairs
pub AreFactors-pairs : (base : NumberBase) (factors pairs : List OperatorElement) (front rest : List Piece) → AreFactors base factors front → AreLinks base pairs rest →
    AreLinks base (factors ++ pairs) (front ++ rest)
AreFactors-pairs base [] pairs front rest none are = subst (λ (p : List Piece). AreLinks base pairs (p ++ rest)) (sym none) are
AreFactors-pairs base (pair ∷ factors) pairs front rest (mark, first, more, spelt, marked, is, factors_are) are = (
  first,
  more ++ rest,
  pieces_behind front first more rest mark (mark_between pair.operator) spelt (IsFactorMark-is pair.operator mark marked),
  is,
  AreFactors-pairs base factors pairs more rest factors_are are,
)

-- factors have the operators of factors
pub AreFactors-joined : (base : NumberBase) (factors : List OperatorElement) (pieces : List Piece) → AreFactors base factors pieces → AreFactorLinks factors
AreFactors-joined base [] pieces none = tt
AreFactors-joined base (pair ∷ factors) pieces (mark, first, more, spelt, marked, is, are) =
    (IsFactorMark-joins pair.operator mark marked, AreFactors-joined base factors more are)

-- pairs that begin with factors are factors, and pairs behind them
pub AreLinks-factors : (base : NumberBase) (factors pairs : List OperatorElement) (pieces : List Piece) → AreFactorLinks factors → AreLinks base (factors ++ pairs) pieces →
    (front : List Piece) × (rest : List Piece) × (pieces ≡ front ++ rest) × AreFactors base factors front × AreLinks base pairs rest
AreLinks-factors base [] pairs pieces joined are = ([], pieces, refl, refl, are)
AreLinks-factors base (pair ∷ factors) pairs pieces (joins, joined) (first, more, spelt, is, are) =
    let part = AreLinks-factors base factors pairs more joined are in
    let mark = mark_between pair.operator in (
      IsMark mark ∷ (first ++ part.0),
      part.1,
      spelt ∙ ap (λ (p : List Piece). IsMark mark ∷ p) (pieces_before first more part.0 part.1 part.2),
      (mark, first, part.0, refl, mark_between-factor pair.operator joins, is, part.3),
      part.4,
    )

-- terms are the pairs that they are made of
pub AreTerms-pairs : (base : NumberBase) (terms : List Term) (pieces : List Piece) → AreTerms base terms pieces → AreLinks base (links_in terms) pieces
AreTerms-pairs base [] pieces none = none
AreTerms-pairs base (term ∷ terms) pieces (mark, front, rest, spelt, marked, (first, more, split, is, factors), are) = (
  first,
  more ++ rest,
  spelt ∙ pieces_behind (IsMark mark ∷ front) first more rest mark (mark_between term.operator) (ap (λ (p : List Piece). IsMark mark ∷ p) split) (IsTermMark-is term.operator mark marked),
  is,
  AreFactors-pairs base term.factors (links_in terms) more rest factors (AreTerms-pairs base terms rest are),
)

-- terms have the operators of terms
pub AreTerms-joined : (base : NumberBase) (terms : List Term) (pieces : List Piece) → AreTerms base terms pieces → AreJoined terms
AreTerms-joined base [] pieces none = tt
AreTerms-joined base (term ∷ terms) pieces (mark, front, rest, spelt, marked, (first, more, split, is, factors), are) =
    (IsTermMark-joins term.operator mark marked, AreFactors-joined base term.factors more factors, AreTerms-joined base terms rest are)

-- pairs that terms are made of are the terms
pub AreLinks-terms : (base : NumberBase) (terms : List Term) (pieces : List Piece) → AreJoined terms → AreLinks base (links_in terms) pieces → AreTerms base terms pieces
AreLinks-terms base [] pieces joined none = none
AreLinks-terms base (term ∷ terms) pieces (joins, factors, joined) (first, more, spelt, is, are) =
    let part = AreLinks-factors base term.factors (links_in terms) more factors are in
    let mark = mark_between term.operator in (
      mark,
      first ++ part.0,
      part.1,
      spelt ∙ ap (λ (p : List Piece). IsMark mark ∷ p) (pieces_before first more part.0 part.1 part.2),
      mark_between-term term.operator joins,
      (first, part.0, refl, is, part.3),
      AreLinks-terms base terms part.1 joined part.4,
    )
