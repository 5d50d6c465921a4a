-- The value of an expression, one link more at a time.
use Rattle.std.{proofs.Common.{◌≡◌, subst, List, [], ◌∷◌, refl, sym, ◌∙◌, ap}, specs.Prelude.{Result, Ok, Err, pos}}
use Rattle.definitions.{specs.Expressions.{Operator, OperatorElement, Term, Expression, Grouped, grouped}, specs.Forms.{Form, Names, Running, element_form, combined_with, product, plus_term, sum_from, closed, value_of}, specs.declared.letter.Letter.Letter, proofs.TermLaws.{JoinsFactors, JoinsTerms, term_of, onto_grouped-factor, onto_grouped-term}}
use Rattle.expr_forms.specs.{Joins.Parsed.BeginsTerm, Joins.Walks.value_at}

-- a fault stays the product
product-fault : (names : Names) (l : Letter) (factors : List OperatorElement) → product names (Err l) factors ≡ Err l
product-fault names l [] = refl
product-fault names l (pair ∷ factors) = product-fault names l factors

-- and the sum
sum_from-fault : (names : Names) (l : Letter) (terms : List Term) → sum_from names (Err l) terms ≡ Err l
sum_from-fault names l [] = refl
sum_from-fault names l (term ∷ terms) = sum_from-fault names l terms

-- the value of a grouping behind a sum
abbrev value_grouped : Names → Running → Operator → Result Form Letter → Grouped → Result Form Letter
value_grouped names running o form group = closed (sum_from names (plus_term o running (product names form group.factors)) group.terms)

-- a fault in the open term
grouped-fault : (names : Names) (running : Running) (o : Operator) (l : Letter) (group : Grouped) → value_grouped names running o (Err l) group ≡ Err l
grouped-fault names running o l group =
    ap (λ (r : Result Form Letter). closed (sum_from names (plus_term o running r) group.terms)) (product-fault names l group.factors)
    ∙ ap closed (sum_from-fault names l group.terms)

-- a factor more
factor-step : (names : Names) (running : Running) (o : Operator) (form : Form) (pair : OperatorElement) (pairs : List OperatorElement) → JoinsFactors pair.operator →
    value_at names running o form (pair ∷ pairs) ≡ value_grouped names running o (combined_with pair.operator form (element_form names pair.element)) (grouped pairs)
factor-step names running o form pair pairs joins = ap (value_grouped names running o (Ok form)) (onto_grouped-factor pair pair.operator (grouped pairs) joins)

pub value-factor_fault : (names : Names) (running : Running) (o : Operator) (form : Form) (l : Letter) (pair : OperatorElement) (pairs : List OperatorElement) → JoinsFactors pair.operator →
    Err l ≡ combined_with pair.operator form (element_form names pair.element) → value_at names running o form (pair ∷ pairs) ≡ Err l
value-factor_fault names running o form l pair pairs joins e =
    factor-step names running o form pair pairs joins ∙ (ap (λ (r : Result Form Letter). value_grouped names running o r (grouped pairs)) (sym e) ∙ grouped-fault names running o l (grouped pairs))

-- a term more
term-step : (names : Names) (running : Running) (o : Operator) (form : Form) (pair : OperatorElement) (pairs : List OperatorElement) → JoinsTerms pair.operator →
    value_at names running o form (pair ∷ pairs) ≡ closed (sum_from names (plus_term o running (Ok form)) (term_of pair.operator pair.element (grouped pairs).factors ∷ (grouped pairs).terms))
term-step names running o form pair pairs joins = ap (value_grouped names running o (Ok form)) (onto_grouped-term pair.element pair.operator (grouped pairs) joins)

pub value-term_fault : (names : Names) (running : Running) (o : Operator) (form : Form) (l : Letter) (pair : OperatorElement) (pairs : List OperatorElement) → JoinsTerms pair.operator →
    plus_term o running (Ok form) ≡ Err l → value_at names running o form (pair ∷ pairs) ≡ Err l
value-term_fault names running o form l pair pairs joins e =
    term-step names running o form pair pairs joins
    ∙ (ap (λ (r : Result Running Letter). closed (sum_from names r (term_of pair.operator pair.element (grouped pairs).factors ∷ (grouped pairs).terms))) e
    ∙ ap closed (sum_from-fault names l (grouped pairs).terms))

pub value-element_fault : (names : Names) (running sum : Running) (o : Operator) (form : Form) (l : Letter) (pair : OperatorElement) (pairs : List OperatorElement) → JoinsTerms pair.operator →
    plus_term o running (Ok form) ≡ Ok sum → Err l ≡ element_form names pair.element → value_at names running o form (pair ∷ pairs) ≡ Err l
value-element_fault names running sum o form l pair pairs joins e f =
    term-step names running o form pair pairs joins
    ∙ (ap (λ (r : Result Running Letter). closed (sum_from names r (term_of pair.operator pair.element (grouped pairs).factors ∷ (grouped pairs).terms))) e
    ∙ (ap (λ (r : Result Form Letter). value_grouped names sum pair.operator r (grouped pairs)) (sym f)
    ∙ grouped-fault names sum pair.operator l (grouped pairs)))

-- the first term of an expression
start-step : (names : Names) (e : Expression) (links more : List OperatorElement) (first : OperatorElement) → (grouped links).terms ≡ e.terms → links ≡ first ∷ more → BeginsTerm links →
    value_of names e ≡ value_grouped names (record { number = pos 0; relocations = [] }) first.operator (element_form names first.element) (grouped more)
start-step names e links more first terms split begins =
    let joins : JoinsTerms first.operator = subst BeginsTerm split begins in
    let sum : List Term → Result Form Letter = λ ts. closed (sum_from names (Ok (record { number = pos 0; relocations = [] })) ts) in
    ap sum (sym terms)
    ∙ (ap (λ (l : List OperatorElement). sum (grouped l).terms) split
    ∙ ap (λ (group : Grouped). sum group.terms) (onto_grouped-term first.element first.operator (grouped more) joins))

pub value-start_fault : (names : Names) (e : Expression) (links more : List OperatorElement) (first : OperatorElement) (l : Letter) → (grouped links).terms ≡ e.terms → links ≡ first ∷ more → BeginsTerm links →
    Err l ≡ element_form names first.element → value_of names e ≡ Err l
value-start_fault names e links more first l terms split begins is =
    start-step names e links more first terms split begins
    ∙ (ap (λ (r : Result Form Letter). value_grouped names (record { number = pos 0; relocations = [] }) first.operator r (grouped more)) (sym is)
    ∙ grouped-fault names (record { number = pos 0; relocations = [] }) first.operator l (grouped more))
