-- What is known of an expression without registers and literals.
use Rattle.std.{proofs.Common.{◌≡◌, ℕ, Some, None, Option, List, [], ◌∷◌, ◌++◌, Bool, true, false, ◌&&◌, refl, sym, ◌∙◌, ap, append_assoc}, specs.Prelude.{map, filter_map, option_map, unwrap_or, is_some}, specs.List.{cons_option, list_all}, proofs.lemmas.List.append-nil, proofs.lemmas.List.Folds.list_all-append}
use Rattle.definitions.{proofs.TestLaws.{and_left, and_right}, proofs.TermLaws.JoinsTerms, proofs.NamesLaws.terms_elements, specs.Expressions.{Sign, Literal, OfNumber, OfCountedItem, Element, ANumber, ACountedItem, ASymbol, ARegister, LocationCounter, OriginCounter, ALiteral, Operator, Times, Divide, Add, Subtract, OperatorElement, Term, Grouped, onto_grouped, grouped, is_allowed}, specs.Literals.literal_in, specs.Matching.{Sum, onto_sum, sum_of}, specs.declared.number_base.NumberBase.NumberBase}
use Rattle.expr_forms.{specs.Joins.Links.links_behind, specs.Joins.LoneRegisters.has_terms, specs.Joins.Parsed.{are_plain, expression_behind, IsPlainSum}, specs.declared.links.LoneRegisters.TheVariants.Kept, proofs.ElementListLaws.elements_in-links, proofs.LoneLaws.left-links}

-- what is allowed without literals is allowed with them
allowed-more : (literals : Bool) (e : Element) → is_allowed false e ≡ true → is_allowed literals e ≡ true
allowed-more literals (ANumber n) allowed = refl
allowed-more literals (ACountedItem i) allowed = refl
allowed-more literals (ASymbol s) allowed = refl
allowed-more literals (ARegister r) allowed = cc
allowed-more literals LocationCounter allowed = refl
allowed-more literals OriginCounter allowed = refl
allowed-more literals (ALiteral (OfNumber sign number)) allowed = cc
allowed-more literals (ALiteral (OfCountedItem item)) allowed = cc

pub all-allowed : (literals : Bool) (es : List Element) → list_all (is_allowed false) es ≡ true → list_all (is_allowed literals) es ≡ true
all-allowed literals [] plain = refl
all-allowed literals (e ∷ es) plain =
    ap (λ (b : Bool). b && list_all (is_allowed literals) es) (allowed-more literals e (and_left (is_allowed false e) (list_all (is_allowed false) es) plain))
    ∙ all-allowed literals es (and_right (is_allowed false e) (list_all (is_allowed false) es) plain)

literal-none : (e : Element) → is_allowed false e ≡ true → literal_in e ≡ None
literal-none (ANumber n) allowed = refl
literal-none (ACountedItem i) allowed = refl
literal-none (ASymbol s) allowed = refl
literal-none (ARegister r) allowed = refl
literal-none LocationCounter allowed = refl
literal-none OriginCounter allowed = refl
literal-none (ALiteral (OfNumber sign number)) allowed = cc
literal-none (ALiteral (OfCountedItem item)) allowed = cc

-- there are no literals among what is plain
pub no-literals : (es : List Element) → list_all (is_allowed false) es ≡ true → filter_map literal_in es ≡ []
no-literals [] plain = refl
no-literals (e ∷ es) plain =
    ap (λ (o : Option Literal). cons_option o (filter_map literal_in es))
    (literal-none e (and_left (is_allowed false e) (list_all (is_allowed false) es) plain))
    ∙ no-literals es (and_right (is_allowed false e) (list_all (is_allowed false) es) plain)

-- a term that begins with no register joins the others
onto-other : (term : Term) (element : Element) (factors : List OperatorElement) (sum : Sum) → is_allowed false element ≡ true →
    onto_sum term element factors sum ≡ record { sign = sum.sign; registers = sum.registers; others = sum.others ++ term ∷ [] }
onto-other term (ANumber n) factors sum allowed = refl
onto-other term (ACountedItem i) factors sum allowed = refl
onto-other term (ASymbol s) factors sum allowed = refl
onto-other term (ARegister r) factors sum allowed = cc
onto-other term LocationCounter factors sum allowed = refl
onto-other term OriginCounter factors sum allowed = refl
onto-other term (ALiteral l) factors sum allowed = refl

-- the sum of terms without registers is those terms
pub plain-sum : (terms : List Term) (sum : Sum) → list_all (is_allowed false) (terms_elements terms) ≡ true →
    sum_of terms sum ≡ record { sign = sum.sign; registers = sum.registers; others = sum.others ++ terms }
plain-sum [] sum plain = ap (λ (l : List Term). record { sign = sum.sign; registers = sum.registers; others = l }) (sym (append-nil sum.others))
plain-sum (term ∷ terms) sum plain =
    let own : List Element = term.element ∷ map (λ (pair : OperatorElement). pair.element) term.factors in
    let both : (list_all (is_allowed false) own && list_all (is_allowed false) (terms_elements terms)) ≡ true = sym (list_all-append (is_allowed false) own (terms_elements terms)) ∙ plain in
    let first : is_allowed false term.element ≡ true = and_left (is_allowed false term.element) (list_all (is_allowed false) (map (λ (pair : OperatorElement). pair.element) term.factors)) (and_left (list_all (is_allowed false) own) (list_all (is_allowed false) (terms_elements terms)) both) in
    ap (λ (s : Sum). sum_of terms s) (onto-other term term.element term.factors sum first)
    ∙ plain-sum terms (record { sign = sum.sign; registers = sum.registers; others = sum.others ++ term ∷ [] }) (and_right (list_all (is_allowed false) own) (list_all (is_allowed false) (terms_elements terms)) both)
    ∙ ap (λ (l : List Term). record { sign = sum.sign; registers = sum.registers; others = l }) (append_assoc sum.others (term ∷ []) terms)

-- a first link that begins a term makes one
first-onto : (first : OperatorElement) (o : Operator) (group : Grouped) → JoinsTerms o → has_terms (onto_grouped first o group).terms ≡ true
first-onto first Times group joins = absurd joins
first-onto first Divide group joins = absurd joins
first-onto first Add group joins = refl
first-onto first Subtract group joins = refl

pub first-some : (first : OperatorElement) (pairs : List OperatorElement) → JoinsTerms first.operator → has_terms (grouped (first ∷ pairs)).terms ≡ true
first-some first pairs joins = first-onto first first.operator (grouped pairs) joins

-- links that are shown plain are some, and plain
pub told-some : (x : Option (List OperatorElement)) (plain : Bool) → Some plain ≡ option_map are_plain x → is_some x ≡ true
told-some None plain told = cc
told-some (Some pairs) plain told = refl

pub told-plain : (x : Option (List OperatorElement)) (plain : Bool) → Some plain ≡ option_map are_plain x → plain ≡ are_plain (unwrap_or x [])
told-plain None plain told = cc
told-plain (Some pairs) plain told = cc

-- a first element and links behind it that are all allowed
pub read-plain : (base : NumberBase) (sign : Sign) (first : OperatorElement) (rest : List ℕ) (plain allowed : Bool) → JoinsTerms first.operator →
    plain ≡ are_plain (links_behind base rest) → allowed ≡ is_allowed false first.element → (plain && allowed) ≡ true →
    IsPlainSum (expression_behind base sign first rest Kept)
read-plain base sign first rest plain allowed joins links element both =
    let more : List OperatorElement = links_behind base rest in
    let front : is_allowed false first.element ≡ true = sym element ∙ and_right plain allowed both in
    let behind : are_plain more ≡ true = sym links ∙ and_left plain allowed both in
    record {
      plain =
          sym (ap (list_all (is_allowed false)) (elements_in-links (first ∷ more) (expression_behind base sign first rest Kept) (left-links Kept first more joins)))
          ∙ (ap (λ (b : Bool). b && are_plain more) front ∙ behind);
      some = first-some first more joins;
    }
