-- The value of an expression rests on the forms of its elements alone, and its relocation is one of theirs.
use Rattle.std.{proofs.Common.{◌≡◌, Bool, true, false, List, [], ◌∷◌, ◌++◌, Option, Some, None, refl, ap, ◌∙◌}, specs.Prelude.{⊤, Result, Ok, Err, ◌==◌, ℤ, ◌+ℤ◌, ◌*ℤ◌, int_div, ◌&&◌, unsigned_abs, if◌then◌else◌, flat_map, map}, specs.List.AllByRecursion}
use Rattle.definitions.specs.{Expressions.{Element, Operator, Times, Divide, Add, Subtract, OperatorElement, Term, Expression, elements_of}, Forms.{Relocation, Part, Added, Subtracted, Form, Names, absolute, is_absolute, is_negative, same_relocation, Running, running_part, plus_relocation, is_zero, remaining, part_of, element_form, in_range, is_in_range, quotient, combined, combined_with, product, signed, plus_relocations, plus_term, sum_from, closed, value_of}, declared.letter.Letter.Letter}
use Rattle.definitions.specs.declared.letter.Letter.TheVariants as letter

-- what holds of all holds of those in front and of those behind
pub all-front : {X : Type 0} (P : X → Type 0) (a b : List X) → AllByRecursion P (a ++ b) → AllByRecursion P a
all-front P [] b h = tt
all-front P (x ∷ a) b h = (h.0, all-front P a b h.1)

pub all-behind : {X : Type 0} (P : X → Type 0) (a b : List X) → AllByRecursion P (a ++ b) → AllByRecursion P b
all-behind P [] b h = h
all-behind P (x ∷ a) b h = all-behind P a b h.1

-- these elements have the same forms under both names
abbrev pub Alike : Names → Names → List Element → Type 0
Alike first second elements = AllByRecursion (λ element. element_form first element ≡ element_form second element) elements

-- the elements of a term, and those of terms
abbrev pub factor_elements : List OperatorElement → List Element
factor_elements factors = map (λ (pair : OperatorElement). pair.element) factors

abbrev pub term_elements : Term → List Element
term_elements term = term.element ∷ factor_elements term.factors

abbrev pub terms_elements : List Term → List Element
terms_elements terms = flat_map (λ (term : Term). term.element ∷ map (λ (pair : OperatorElement). pair.element) term.factors) terms

product-alike : (first second : Names) (form : Result Form Letter) (pairs : List OperatorElement) → Alike first second (factor_elements pairs) → product first form pairs ≡ product second form pairs
product-alike first second form [] h = refl
product-alike first second (Err fault) (pair ∷ pairs) h = product-alike first second (Err fault) pairs h.1
product-alike first second (Ok form) (pair ∷ pairs) h =
    product-alike first second (combined_with pair.operator form (element_form first pair.element)) pairs h.1
    ∙ ap (λ other. product second (combined_with pair.operator form other) pairs) h.0

term-alike : (first second : Names) (term : Term) → Alike first second (term_elements term) →
    product first (element_form first term.element) term.factors ≡ product second (element_form second term.element) term.factors
term-alike first second term h =
    product-alike first second (element_form first term.element) term.factors h.1 ∙ ap (λ form. product second form term.factors) h.0

sum_from-alike : (first second : Names) (running : Result Running Letter) (terms : List Term) → Alike first second (terms_elements terms) → sum_from first running terms ≡ sum_from second running terms
sum_from-alike first second running [] h = refl
sum_from-alike first second (Err fault) (term ∷ terms) h =
    sum_from-alike first second (Err fault) terms (all-behind (λ element. element_form first element ≡ element_form second element) (term_elements term) (terms_elements terms) h)
sum_from-alike first second (Ok running) (term ∷ terms) h =
    let P : Element → Type 0 = λ element. element_form first element ≡ element_form second element in
    sum_from-alike first second (plus_term term.operator running (product first (element_form first term.element) term.factors)) terms (all-behind P (term_elements term) (terms_elements terms) h)
    ∙ ap (λ form. sum_from second (plus_term term.operator running form) terms) (term-alike first second term (all-front P (term_elements term) (terms_elements terms) h))

-- elements alike make expressions alike
pub value_of-alike : (first second : Names) (e : Expression) → Alike first second (elements_of e) → value_of first e ≡ value_of second e
value_of-alike first second e h = ap closed (sum_from-alike first second _ e.terms h)

-- this holds of the relocations of a sum
abbrev AllOf : (Relocation → Type 0) → List (Relocation × ℤ) → Type 0
AllOf P relocations = AllByRecursion (λ (pair : Relocation × ℤ). P pair.0) relocations

-- this holds of the relocation of a form, if it has one
abbrev pub OfPart : (Relocation → Type 0) → Option Part → Type 0
OfPart P None = ⊤
OfPart P (Some (Added relocation)) = P relocation
OfPart P (Some (Subtracted relocation)) = P relocation

-- this holds of the relocation of a value, if it is one
abbrev pub OfValue : (Relocation → Type 0) → Result Form Letter → Type 0
OfValue P (Err fault) = ⊤
OfValue P (Ok form) = OfPart P form.part

abbrev OfRunning : (Relocation → Type 0) → Result Running Letter → Type 0
OfRunning P (Err fault) = ⊤
OfRunning P (Ok running) = AllOf P running.relocations

-- either way
value-either : (P : Relocation → Type 0) (b : Bool) (x y : Result Form Letter) → OfValue P x → OfValue P y → OfValue P (if b then x else y)
value-either P true x y h k = h
value-either P false x y h k = k

in_range-of : (P : Relocation → Type 0) (n : ℤ) → OfValue P (in_range n)
in_range-of P n = value-either P (is_in_range n) (Ok (absolute n)) (Err letter.A) tt tt

quotient-of : (P : Relocation → Type 0) (a b : ℤ) → OfValue P (quotient a b)
quotient-of P a b = value-either P (is_zero b) (Err letter.Z) (in_range (int_div a b)) tt (in_range-of P (int_div a b))

-- a product and a quotient are absolute
combined-of : (P : Relocation → Type 0) (operator : Operator) (a b : Form) → OfValue P (combined operator a b)
combined-of P Divide a b = value-either P (is_absolute a && is_absolute b) (quotient a.number b.number) (Err letter.R) (quotient-of P a.number b.number) tt
combined-of P Times a b = value-either P (is_absolute a && is_absolute b) (in_range (a.number *ℤ b.number)) (Err letter.R) (in_range-of P (a.number *ℤ b.number)) tt
combined-of P Add a b = value-either P (is_absolute a && is_absolute b) (in_range (a.number *ℤ b.number)) (Err letter.R) (in_range-of P (a.number *ℤ b.number)) tt
combined-of P Subtract a b = value-either P (is_absolute a && is_absolute b) (in_range (a.number *ℤ b.number)) (Err letter.R) (in_range-of P (a.number *ℤ b.number)) tt

combined_with-of : (P : Relocation → Type 0) (operator : Operator) (a : Form) (b : Result Form Letter) → OfValue P (combined_with operator a b)
combined_with-of P operator a (Err fault) = tt
combined_with-of P operator a (Ok b) = combined-of P operator a b

product-of : (P : Relocation → Type 0) (names : Names) (form : Result Form Letter) (pairs : List OperatorElement) → OfValue P form → OfValue P (product names form pairs)
product-of P names form [] h = h
product-of P names (Err fault) (pair ∷ pairs) h = product-of P names (Err fault) pairs tt
product-of P names (Ok form) (pair ∷ pairs) h =
    product-of P names (combined_with pair.operator form (element_form names pair.element)) pairs (combined_with-of P pair.operator form (element_form names pair.element))

-- a relocation that is put to others is one of them
plus_relocation-of : (P : Relocation → Type 0) (relocation : Relocation) (times : ℤ) (others : List (Relocation × ℤ)) → P relocation → AllOf P others → AllOf P (plus_relocation relocation times others)
plus_relocation-of P relocation times [] h k = (h, tt)
plus_relocation-of P relocation times (other ∷ others) h k = by (same_relocation relocation other.0) (plus_relocation-of P relocation times others h k.1)
  where
    by : (b : Bool) → AllOf P (plus_relocation relocation times others) →
        AllOf P (if b then (other.0, other.1 +ℤ times) ∷ others else other ∷ plus_relocation relocation times others)
    by true rest = k
    by false rest = (k.0, rest)

plus_relocations-of : (P : Relocation → Type 0) (operator : Operator) (others relocations : List (Relocation × ℤ)) → AllOf P others → AllOf P relocations → AllOf P (plus_relocations operator others relocations)
plus_relocations-of P operator [] relocations h k = k
plus_relocations-of P operator (other ∷ others) relocations h k =
    plus_relocations-of P operator others (plus_relocation other.0 (signed operator other.1) relocations) h.1 (plus_relocation-of P other.0 (signed operator other.1) relocations h.0 k)

running_part-of : (P : Relocation → Type 0) (part : Option Part) → OfPart P part → AllOf P (running_part part)
running_part-of P None h = tt
running_part-of P (Some (Added relocation)) h = (h, tt)
running_part-of P (Some (Subtracted relocation)) h = (h, tt)

plus_term-of : (P : Relocation → Type 0) (operator : Operator) (running : Running) (form : Result Form Letter) → AllOf P running.relocations → OfValue P form → OfRunning P (plus_term operator running form)
plus_term-of P operator running (Err fault) h k = tt
plus_term-of P operator running (Ok form) h k = by (is_in_range (running.number +ℤ signed operator form.number))
  where
    all : AllOf P (plus_relocations operator (running_part form.part) running.relocations)
    all = plus_relocations-of P operator (running_part form.part) running.relocations (running_part-of P form.part k) h

    by : (b : Bool) → OfRunning P (if b then Ok (record { number = running.number +ℤ signed operator form.number; relocations = plus_relocations operator (running_part form.part) running.relocations }) else Err letter.A)
    by true = all
    by false = tt

sum_from-of : (P : Relocation → Type 0) (names : Names) (running : Result Running Letter) (terms : List Term) →
    AllByRecursion (λ element. OfValue P (element_form names element)) (terms_elements terms) → OfRunning P running → OfRunning P (sum_from names running terms)
sum_from-of P names running [] h k = k
sum_from-of P names (Err fault) (term ∷ terms) h k =
    sum_from-of P names (Err fault) terms (all-behind (λ element. OfValue P (element_form names element)) (term_elements term) (terms_elements terms) h) tt
sum_from-of P names (Ok running) (term ∷ terms) h k =
    let Q : Element → Type 0 = λ element. OfValue P (element_form names element) in
    let here = all-front Q (term_elements term) (terms_elements terms) h in
    let value = product names (element_form names term.element) term.factors in
    sum_from-of P names (plus_term term.operator running value) terms (all-behind Q (term_elements term) (terms_elements terms) h)
    (plus_term-of P term.operator running value k (product-of P names (element_form names term.element) term.factors here.0))

remaining-of : (P : Relocation → Type 0) (relocations : List (Relocation × ℤ)) → AllOf P relocations → AllOf P (remaining relocations)
remaining-of P [] h = tt
remaining-of P (relocation ∷ relocations) h = by (is_zero relocation.1) (remaining-of P relocations h.1)
  where
    by : (b : Bool) → AllOf P (remaining relocations) → AllOf P (if b then remaining relocations else relocation ∷ remaining relocations)
    by true rest = rest
    by false rest = (h.0, rest)

part_of-of : (P : Relocation → Type 0) (number : ℤ) (relocations : List (Relocation × ℤ)) → AllOf P relocations → OfValue P (part_of number relocations)
part_of-of P number [] h = tt
part_of-of P number (first ∷ second ∷ others) h = tt
part_of-of P number (relocation ∷ []) h = by (unsigned_abs relocation.1 == 1) (is_negative relocation.1)
  where
    by : (b c : Bool) → OfValue P (if b then Ok (record { number = number; part = Some (if c then Subtracted relocation.0 else Added relocation.0) }) else Err letter.R)
    by true true = h.0
    by true false = h.0
    by false c = tt

closed-of : (P : Relocation → Type 0) (running : Result Running Letter) → OfRunning P running → OfValue P (closed running)
closed-of P (Err fault) h = tt
closed-of P (Ok running) h = part_of-of P running.number (remaining running.relocations) (remaining-of P running.relocations h)

-- what holds of the relocations of all elements holds of that of the value
pub value_of-of : (P : Relocation → Type 0) (names : Names) (e : Expression) → AllByRecursion (λ element. OfValue P (element_form names element)) (elements_of e) → OfValue P (value_of names e)
value_of-of P names e h = closed-of P (sum_from names _ e.terms) (sum_from-of P names _ e.terms h tt)
