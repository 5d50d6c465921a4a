-- The elements of an expression are those of its links.
use Rattle.std.{proofs.Common.{◌≡◌, List, [], ◌∷◌, ◌++◌, refl, ◌∙◌, ap}, specs.Prelude.{map, flat_map}}
use Rattle.definitions.{specs.Expressions.{Element, OperatorElement, Term, Expression, elements_of}, proofs.TermLaws.{links_in}}
use Rattle.expr_forms.specs.Joins.{ElementLists.{elements_in}}

elements_in-append : (front pairs : List OperatorElement) → elements_in (front ++ pairs) ≡ elements_in front ++ elements_in pairs
elements_in-append [] pairs = refl
elements_in-append (pair ∷ front) pairs = ap (λ (l : List Element). pair.element ∷ l) (elements_in-append front pairs)

elements_in-terms : (terms : List Term) → elements_in (links_in terms) ≡ flat_map (λ (term : Term). term.element ∷ map (λ (pair : OperatorElement). pair.element) term.factors) terms
elements_in-terms [] = refl
elements_in-terms (term ∷ terms) =
    ap (λ (l : List Element). term.element ∷ l)
    (elements_in-append term.factors (links_in terms) ∙ ap (λ (l : List Element). elements_in term.factors ++ l) (elements_in-terms terms))

-- the elements of an expression's links are its elements
pub elements_in-links : (pairs : List OperatorElement) (e : Expression) → pairs ≡ links_in e.terms → elements_in pairs ≡ elements_of e
elements_in-links pairs e same = ap elements_in same ∙ elements_in-terms e.terms
