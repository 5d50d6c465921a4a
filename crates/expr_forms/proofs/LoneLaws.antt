-- Links and terms without those that are one register.
use Rattle.std.{proofs.Common.{◌≡◌, ℕ, ◌≤◌, List, [], ◌∷◌, ◌++◌, length, Bool, true, false, ◌&&◌, if◌then◌else◌, Option, Some, None, refl, sym, ◌∙◌, ap, arith}, specs.Prelude.{is_some, unwrap_or, option_and_then}}
use Rattle.definitions.{specs.Pieces.{Piece, mark_of, pieces_of}, specs.Expressions.{Element, Operator, Times, Divide, Add, Subtract, OperatorElement, Term, Grouped, onto_grouped, grouped, operator_of_mark}, specs.declared.number_base.NumberBase.NumberBase, proofs.GrammarLaws.{link_of, StartsWithElement, pairs_from-read, pairs_from}, proofs.TermLaws.{JoinsTerms, AreFactorLinks, AreJoined, links_in, term_of, IsGrouping, grouped-groups}}
use Rattle.expr_forms.{specs.Joins.Links.{pairs_behind, links_behind, IsLawful}, specs.Joins.Parsed.BeginsTerm, specs.Joins.LoneRegisters.{joins_terms, is_register, begins_term, is_lone, without_lone, links_left_by, has_no_factors, other_terms, terms_left_by}, specs.declared.links.LoneRegisters.LoneRegisters, specs.declared.links.LoneRegisters.TheVariants.{Kept, LeftOut}, proofs.LinkLaws.{link-operator}}

begins-by : (base : NumberBase) (o : Operator) (pieces : List Piece) (x : Option (List OperatorElement)) → pairs_from base o pieces ≡ x → is_some x ≡ true →
    joins_terms o ≡ begins_term (unwrap_or x [])
begins-by base o pieces None e lawful = cc
begins-by base o pieces (Some pairs) e lawful =
    let starts : StartsWithElement base o pairs pieces = pairs_from-read base o pieces pairs e in
    sym (ap begins_term starts.4)

-- the operator that begins a text shows whether a term begins it
pub text-begins : (base : NumberBase) (text cs : List ℕ) (c : ℕ) (o : Operator) → text ≡ c ∷ cs → option_and_then operator_of_mark (mark_of c) ≡ Some o → IsLawful base text →
    joins_terms o ≡ begins_term (links_behind base text)
text-begins base text cs c o t e lawful =
    let read : pairs_behind base text ≡ pairs_from base o (pieces_of cs) = link-operator base text cs c o t e in
    begins-by base o (pieces_of cs) (pairs_from base o (pieces_of cs)) refl (sym (ap is_some read) ∙ lawful)
    ∙ ap (λ (x : Option (List OperatorElement)). begins_term (unwrap_or x [])) (sym read)

-- a term has no factors where a term begins behind it
no_factors-onto : (pair : OperatorElement) (o : Operator) (group : Grouped) → has_no_factors (onto_grouped pair o group).factors ≡ joins_terms o
no_factors-onto pair Times group = refl
no_factors-onto pair Divide group = refl
no_factors-onto pair Add group = refl
no_factors-onto pair Subtract group = refl

pub no_factors-begins : (pairs : List OperatorElement) → has_no_factors (grouped pairs).factors ≡ begins_term pairs
no_factors-begins [] = refl
no_factors-begins (pair ∷ pairs) = no_factors-onto pair pair.operator (grouped pairs)

-- a term in front of links
without-term : (o : Operator) (element : Element) (pair : OperatorElement) (factors left : List OperatorElement) (terms : List Term) (register : Bool) →
    link_of o element ≡ pair → factors ++ links_in (other_terms terms) ≡ left →
    links_in (if register && has_no_factors factors then other_terms terms else term_of o element factors ∷ other_terms terms)
    ≡ (if register && has_no_factors factors then left else pair ∷ left)
without-term o element pair [] left terms true same e = e
without-term o element pair (factor ∷ factors) left terms true same e = ap (λ (l : List OperatorElement). link_of o element ∷ l) e ∙ ap (λ (p : OperatorElement). p ∷ left) same
without-term o element pair factors left terms false same e = ap (λ (l : List OperatorElement). link_of o element ∷ l) e ∙ ap (λ (p : OperatorElement). p ∷ left) same

without-onto : (pair : OperatorElement) (o : Operator) (pairs : List OperatorElement) → pair.operator ≡ o →
    (grouped pairs).factors ++ links_in (other_terms (grouped pairs).terms) ≡ without_lone pairs →
    (onto_grouped pair o (grouped pairs)).factors ++ links_in (other_terms (onto_grouped pair o (grouped pairs)).terms)
    ≡ (if joins_terms o && (is_register pair.element && begins_term pairs) then without_lone pairs else pair ∷ without_lone pairs)
without-onto pair Times pairs same e = ap (λ (l : List OperatorElement). pair ∷ l) e
without-onto pair Divide pairs same e = ap (λ (l : List OperatorElement). pair ∷ l) e
without-onto pair Add pairs same e =
    without-term Add pair.element pair (grouped pairs).factors (without_lone pairs) (grouped pairs).terms (is_register pair.element) (ap (λ (o : Operator). link_of o pair.element) (sym same)) e
    ∙ ap (λ (b : Bool). if is_register pair.element && b then without_lone pairs else pair ∷ without_lone pairs) (no_factors-begins pairs)
without-onto pair Subtract pairs same e =
    without-term Subtract pair.element pair (grouped pairs).factors (without_lone pairs) (grouped pairs).terms (is_register pair.element) (ap (λ (o : Operator). link_of o pair.element) (sym same)) e
    ∙ ap (λ (b : Bool). if is_register pair.element && b then without_lone pairs else pair ∷ without_lone pairs) (no_factors-begins pairs)

-- the links that are left are those of the terms that are left
without-groups : (pairs : List OperatorElement) → (grouped pairs).factors ++ links_in (other_terms (grouped pairs).terms) ≡ without_lone pairs
without-groups [] = refl
without-groups (pair ∷ pairs) =
    without-onto pair pair.operator pairs refl (without-groups pairs)
    ∙ ap (λ (b : Bool). if b then without_lone pairs else pair ∷ without_lone pairs) refl

left-groups : (registers : LoneRegisters) (pairs : List OperatorElement) → (grouped pairs).factors ++ links_in (terms_left_by registers (grouped pairs).terms) ≡ links_left_by registers pairs
left-groups Kept pairs = let made : IsGrouping (grouped pairs) pairs = grouped-groups pairs in sym made.2
left-groups LeftOut pairs = without-groups pairs

no_factors-first : (first : OperatorElement) (o : Operator) (group : Grouped) → JoinsTerms o → (onto_grouped first o group).factors ≡ []
no_factors-first first Times group joins = absurd joins
no_factors-first first Divide group joins = absurd joins
no_factors-first first Add group joins = refl
no_factors-first first Subtract group joins = refl

-- the same, where the first link begins a term
pub left-links : (registers : LoneRegisters) (first : OperatorElement) (pairs : List OperatorElement) → JoinsTerms first.operator →
    links_left_by registers (first ∷ pairs) ≡ links_in (terms_left_by registers (grouped (first ∷ pairs)).terms)
left-links registers first pairs joins =
    sym (left-groups registers (first ∷ pairs))
    ∙ ap (λ (l : List OperatorElement). l ++ links_in (terms_left_by registers (grouped (first ∷ pairs)).terms)) (no_factors-first first first.operator (grouped pairs) joins)

other-joined : (terms : List Term) → AreJoined terms → AreJoined (other_terms terms)
other-joined [] joined = tt
other-joined (term ∷ terms) (joins, factors, joined) = other-by term terms (is_register term.element && has_no_factors term.factors) joins factors (other-joined terms joined)
  where
    other-by : (term : Term) (terms : List Term) (b : Bool) → JoinsTerms term.operator → AreFactorLinks term.factors → AreJoined (other_terms terms) →
        AreJoined (if b then other_terms terms else term ∷ other_terms terms)
    other-by term terms true joins factors joined = joined
    other-by term terms false joins factors joined = (joins, factors, joined)

left-joined : (registers : LoneRegisters) (terms : List Term) → AreJoined terms → AreJoined (terms_left_by registers terms)
left-joined Kept terms joined = joined
left-joined LeftOut terms joined = other-joined terms joined

-- terms that are left are joined as terms are
pub left-terms : (registers : LoneRegisters) (pairs : List OperatorElement) → AreJoined (terms_left_by registers (grouped pairs).terms)
left-terms registers pairs = let made : IsGrouping (grouped pairs) pairs = grouped-groups pairs in left-joined registers (grouped pairs).terms made.1

-- joined terms begin with a term
pub joined-begins : (terms : List Term) → AreJoined terms → BeginsTerm (links_in terms)
joined-begins [] joined = tt
joined-begins (term ∷ terms) (joins, factors, joined) = joins

-- no more links are left than were there
without-few : (pairs : List OperatorElement) → length (without_lone pairs) ≤ length pairs
without-few [] = omega arith
without-few (pair ∷ pairs) = few-by pair pairs (is_lone pair pairs) (without-few pairs)
  where
    few-by : (pair : OperatorElement) (pairs : List OperatorElement) (b : Bool) → length (without_lone pairs) ≤ length pairs →
        length (if b then without_lone pairs else pair ∷ without_lone pairs) ≤ length (pair ∷ pairs)
    few-by pair pairs true few = omega (arith, few)
    few-by pair pairs false few = omega (arith, few)

pub left-few : (registers : LoneRegisters) (pairs : List OperatorElement) → length (links_left_by registers pairs) ≤ length pairs
left-few Kept pairs = omega arith
left-few LeftOut pairs = without-few pairs

-- whether a term begins is seen also without the terms of one register
begins-without : (pairs : List OperatorElement) → begins_term (without_lone pairs) ≡ begins_term pairs
begins-without [] = refl
begins-without (pair ∷ pairs) = begins-lone pair pairs (joins_terms pair.operator) (is_register pair.element) (begins_term pairs) refl (begins-without pairs)
  where
    begins-lone : (pair : OperatorElement) (pairs : List OperatorElement) (j r b : Bool) → joins_terms pair.operator ≡ j → begins_term (without_lone pairs) ≡ b →
        begins_term (if j && (r && b) then without_lone pairs else pair ∷ without_lone pairs) ≡ j
    begins-lone pair pairs false r b joins e = joins
    begins-lone pair pairs true false b joins e = joins
    begins-lone pair pairs true true false joins e = joins
    begins-lone pair pairs true true true joins e = e

pub begins-left : (registers : LoneRegisters) (pairs : List OperatorElement) → begins_term (links_left_by registers pairs) ≡ begins_term pairs
begins-left Kept pairs = refl
begins-left LeftOut pairs = begins-without pairs

-- left out once, nothing more is left out
other-again : (terms : List Term) → other_terms (other_terms terms) ≡ other_terms terms
other-again [] = refl
other-again (term ∷ terms) = again-by term terms (is_register term.element && has_no_factors term.factors) refl (other-again terms)
  where
    again-by : (term : Term) (terms : List Term) (b : Bool) → (is_register term.element && has_no_factors term.factors) ≡ b → other_terms (other_terms terms) ≡ other_terms terms →
        other_terms (if b then other_terms terms else term ∷ other_terms terms) ≡ (if b then other_terms terms else term ∷ other_terms terms)
    again-by term terms true lone e = e
    again-by term terms false lone e = ap (λ (b : Bool). if b then other_terms (other_terms terms) else term ∷ other_terms (other_terms terms)) lone ∙ ap (λ (l : List Term). term ∷ l) e

pub left-again : (registers : LoneRegisters) (terms : List Term) → other_terms (terms_left_by registers terms) ≡ other_terms terms
left-again Kept terms = refl
left-again LeftOut terms = other-again terms

-- plus and minus join terms
pub joins-shown : (o : Operator) → joins_terms o ≡ true → JoinsTerms o
joins-shown Times e = cc
joins-shown Divide e = cc
joins-shown Add e = tt
joins-shown Subtract e = tt
