-- The terms of an expression that are one register, and what is left without them (COMPASS 60492600, CPU instructions).
use Rattle.std.specs.Prelude.{List, [], ◌∷◌, Bool, true, false, ◌&&◌, if◌then◌else◌}
use Rattle.definitions.specs.Expressions.{Element, ARegister, Operator, Times, Divide, Add, Subtract, OperatorElement, Term}
use Rattle.expr_forms.specs.declared.links.LoneRegisters.{LoneRegisters, TheVariants.{Kept, LeftOut}}

-- plus and minus stand between terms
abbrev pub joins_terms : Operator → Bool
joins_terms Times = false
joins_terms Divide = false
joins_terms Add = true
joins_terms Subtract = true

abbrev pub is_register : Element → Bool
is_register (ARegister r) = true
is_register _ = false

-- no link, or one that begins a term
abbrev pub begins_term : List OperatorElement → Bool
begins_term [] = true
begins_term (pair ∷ pairs) = joins_terms pair.operator

-- whether a link is a term of one register, by the links behind it
abbrev pub is_lone : OperatorElement → List OperatorElement → Bool
is_lone pair behind = joins_terms pair.operator && (is_register pair.element && begins_term behind)

-- the links that are no such term
abbrev pub without_lone : List OperatorElement → List OperatorElement
without_lone [] = []
without_lone (pair ∷ pairs) = if is_lone pair pairs then without_lone pairs else pair ∷ without_lone pairs

-- all links, or those that are left
abbrev pub links_left_by : LoneRegisters → List OperatorElement → List OperatorElement
links_left_by Kept pairs = pairs
links_left_by LeftOut pairs = without_lone pairs

abbrev pub has_no_factors : List OperatorElement → Bool
has_no_factors [] = true
has_no_factors (pair ∷ pairs) = false

-- whether there is a term
abbrev pub has_terms : List Term → Bool
has_terms [] = false
has_terms (term ∷ terms) = true

-- the terms that are more than one register
abbrev pub other_terms : List Term → List Term
other_terms [] = []
other_terms (term ∷ terms) = if is_register term.element && has_no_factors term.factors then other_terms terms else term ∷ other_terms terms

-- all terms, or those that are left
abbrev pub terms_left_by : LoneRegisters → List Term → List Term
terms_left_by Kept terms = terms
terms_left_by LeftOut terms = other_terms terms

-- the term that a link is by itself
abbrev pub term_alone : OperatorElement → Term
term_alone pair = record { operator = pair.operator; element = pair.element; factors = [] }
