-- Sums taken apart link by link.
use Rattle.std.proofs.{Common.{◌≡◌, Some, None, List, [], ◌∷◌, ◌++◌, true, false, ◌&&◌, if◌then◌else◌, refl, sym, ◌∙◌, ap, subst, append_assoc}, lemmas.List.append-nil}
use Rattle.definitions.specs.{Expressions.{Sign, Element, ANumber, ACountedItem, ASymbol, ARegister, LocationCounter, OriginCounter, ALiteral, OperatorElement, Term, Expression}, Symbols.Register, Matching.{Sum, onto_sum, sum_of, sum_field}}
use Rattle.expr_forms.specs.{Joins.LoneRegisters.{is_register, has_no_factors, has_terms, other_terms}, Joins.Sums.{field_of, HasParts}, declared.sums.Parts.Parts}

-- the other terms of a sum with a term more
others-onto : (term : Term) (element : Element) (factors : List OperatorElement) (terms : List Term) (sum : Sum) →
    (onto_sum term element factors sum).others ++ other_terms terms ≡ sum.others ++ (if is_register element && has_no_factors factors then other_terms terms else term ∷ other_terms terms)
others-onto term (ARegister r) [] terms sum = refl
others-onto term (ARegister r) (pair ∷ pairs) terms sum = append_assoc sum.others (term ∷ []) (other_terms terms)
others-onto term (ANumber n) factors terms sum = append_assoc sum.others (term ∷ []) (other_terms terms)
others-onto term (ACountedItem i) factors terms sum = append_assoc sum.others (term ∷ []) (other_terms terms)
others-onto term (ASymbol s) factors terms sum = append_assoc sum.others (term ∷ []) (other_terms terms)
others-onto term LocationCounter factors terms sum = append_assoc sum.others (term ∷ []) (other_terms terms)
others-onto term OriginCounter factors terms sum = append_assoc sum.others (term ∷ []) (other_terms terms)
others-onto term (ALiteral l) factors terms sum = append_assoc sum.others (term ∷ []) (other_terms terms)

pub sum-others : (terms : List Term) (sum : Sum) → (sum_of terms sum).others ≡ sum.others ++ other_terms terms
sum-others [] sum = sym (append-nil sum.others)
sum-others (term ∷ terms) sum =
    sum-others terms (onto_sum term term.element term.factors sum)
    ∙ others-onto term term.element term.factors terms sum

-- the field of other terms, if there are any
pub field-some : (sign : Sign) (terms : List Term) (e : Expression) → has_terms terms ≡ true → e ≡ record { sign = sign; terms = terms } → field_of (Some e) ≡ sum_field sign terms
field-some sign [] e some same = cc
field-some sign (term ∷ terms) e some same = ap (λ (x : Expression). field_of (Some x)) same

pub field-none : (sign : Sign) (terms : List Term) → has_terms terms ≡ false → field_of None ≡ sum_field sign terms
field-none sign [] none = refl
field-none sign (term ∷ terms) none = cc

-- a register without factors joins the registers
pub lone-alone : (parts : Parts) (term : Term) (element : Element) (r : Register) (factors : List OperatorElement) (sum : Sum) → element ≡ ARegister r → has_no_factors factors ≡ true →
    HasParts parts (onto_sum term (ARegister r) [] sum) → HasParts parts (onto_sum term element factors sum)
lone-alone parts term element r [] sum same alone has = subst (λ (x : Element). HasParts parts (onto_sum term x [] sum)) (sym same) has
lone-alone parts term element r (pair ∷ pairs) sum same alone has = cc
