-- The rows of the central table make whole instructions: the digits of each code have their room, and with the field they fill 15 or 30 bits.
use Rattle.std.{proofs.Common.{ℕ, ◌≡◌, suc, ◌+◌, ◌-◌, ◌*◌, ◌%◌, ◌^◌, ◌<◌, ◌≤◌, Bool, true, false, ◌&&◌, ◌||◌, List, [], ◌∷◌, ◌++◌, length, Option, Some, None, refl, ap, subst, arith}, specs.Prelude.{nat_eq, nat_le, map, filter, codes, option_map, option_and_then, if◌then◌else◌}, specs.List.{AllByRecursion, list_all, slice_split}, proofs.lemmas.Bool.{leb-true, eqb-true}}
use Rattle.std.proofs.Math.Nat.{pow-suc as pow-succ, mul-le-mul_right}
use Rattle.definitions.{specs.Characters.{is_among, same_text, comma}, specs.Pieces.Piece, specs.Expressions.{Expression, Term, expression_of, is_plain}, specs.CentralTable.{Row, SumRow, central_rows, ignoring_rows, sum_rows}, specs.Matching.{RegisterDigits, no_ijk, is_ijk, with_ijk, is_octal_digit, matched, is_operation, Field, NoField, OfK, OfN, Instruction, Match, plain_text, plain_field, with_field, subfield_matched, subfields_matched, digit_in, code_digits, octal_number, instruction_of, ignoring_fit, row_fit, Sum, sum_code, sum_field, is_plain_field, sum_instruction, sum_fit, sum_read, single, rows_for, sum_rows_for, fits_of, first_fit, central_of}, specs.Sizes.field_width, specs.declared.number_base.NumberBase.NumberBase, proofs.WordLaws.picked_cond, proofs.OperandShapes.IsWhole, proofs.TestLaws.{and_left, and_right}}

-- the digits of registers are octal digits
abbrev AreOctal : RegisterDigits → Type 0
AreOctal ijk = (ijk.i < 8) × ((ijk.j < 8) × (ijk.k < 8))

octal_below : (c : ℕ) → is_octal_digit c ≡ true → c - 48 < 8
octal_below c e = let most : c ≤ 55 = leb-true c 55 (and_right (nat_le 48 c) (nat_le c 55) e) in omega arith

with_ijk-octal : (c digit : ℕ) (ijk : RegisterDigits) → digit < 8 → AreOctal ijk → AreOctal (with_ijk c digit ijk)
with_ijk-octal c digit ijk small h =
    picked_cond AreOctal (nat_eq c 105) _ _ (small, h.1)
    (picked_cond AreOctal (nat_eq c 106) _ _ (h.0, (small, h.1.1)) (h.0, (h.1.0, small)))

-- what is matched are octal digits
matched-octal : (pattern text : List ℕ) (ijk found : RegisterDigits) → AreOctal ijk → matched pattern text ijk ≡ Some found → AreOctal found
matched-octal [] [] ijk found h e = let same : ijk ≡ found = cc in subst AreOctal same h
matched-octal [] (c ∷ cs) ijk found h e = cc
matched-octal (p ∷ ps) [] ijk found h e = cc
matched-octal (p ∷ ps) (c ∷ cs) ijk found h e = step (λ next g f. matched-octal ps cs next found g f) (is_ijk p) e
  where
    mark : ((next : RegisterDigits) → AreOctal next → matched ps cs next ≡ Some found → AreOctal found) →
        (t : Bool) → is_octal_digit c ≡ t → (if t then matched ps cs (with_ijk p (c - 48) ijk) else None) ≡ Some found → AreOctal found
    mark behind true is e = behind (with_ijk p (c - 48) ijk) (with_ijk-octal p (c - 48) ijk (octal_below c is) h) e
    mark behind false is e = cc

    plain : ((next : RegisterDigits) → AreOctal next → matched ps cs next ≡ Some found → AreOctal found) →
        (t : Bool) → (if t then matched ps cs ijk else None) ≡ Some found → AreOctal found
    plain behind true e = behind ijk h e
    plain behind false e = cc

    step : ((next : RegisterDigits) → AreOctal next → matched ps cs next ≡ Some found → AreOctal found) →
        (t : Bool) → (if (if t then is_octal_digit c else nat_eq p c) then matched ps cs (if t then with_ijk p (c - 48) ijk else ijk) else None) ≡ Some found → AreOctal found
    step behind true e = mark behind (is_octal_digit c) refl e
    step behind false e = plain behind (nat_eq p c) e

-- a character of a code in front of K or n: i, j, k or an octal digit
abbrev is_code_character : ℕ → Bool
is_code_character c = nat_eq c 105 || (nat_eq c 106 || (nat_eq c 107 || is_octal_digit c))

-- a code: such characters, and at the end K, n or nothing
abbrev is_code : List ℕ → Bool
is_code [] = true
is_code (c ∷ cs) = if is_among c (codes "Kn") then true else (is_code_character c && is_code cs)

-- how many digits a code has
abbrev digits_in : List ℕ → ℕ
digits_in [] = 0
digits_in (c ∷ cs) = if is_among c (codes "Kn") then 0 else suc (digits_in cs)

digit_in-octal : (ijk : RegisterDigits) (c : ℕ) → AreOctal ijk → is_code_character c ≡ true → digit_in ijk c < 8
digit_in-octal ijk c h e = step (nat_eq c 105) (nat_eq c 106) (nat_eq c 107) (is_octal_digit c) refl e
  where
    step : (s t u v : Bool) → is_octal_digit c ≡ v → (s || (t || (u || v))) ≡ true → (if s then ijk.i else if t then ijk.j else if u then ijk.k else c - 48) < 8
    step true t u v is e = h.0
    step false true u v is e = h.1.0
    step false false true v is e = h.1.1
    step false false false true is e = octal_below c is
    step false false false false is e = cc

code_digits-octal : (ijk : RegisterDigits) (code : List ℕ) → AreOctal ijk → is_code code ≡ true → AllByRecursion (λ d. d < 8) (code_digits ijk code)
code_digits-octal ijk [] h e = tt
code_digits-octal ijk (c ∷ cs) h e = step (code_digits-octal ijk cs h) (is_among c (codes "Kn")) e
  where
    step : (is_code cs ≡ true → AllByRecursion (λ d. d < 8) (code_digits ijk cs)) →
        (t : Bool) → (if t then true else (is_code_character c && is_code cs)) ≡ true → AllByRecursion (λ d. d < 8) (if t then [] else digit_in ijk c ∷ code_digits ijk cs)
    step behind true e = tt
    step behind false e = (digit_in-octal ijk c h (and_left (is_code_character c) (is_code cs) e), behind (and_right (is_code_character c) (is_code cs) e))

code_digits-length : (ijk : RegisterDigits) (code : List ℕ) → length (code_digits ijk code) ≡ digits_in code
code_digits-length ijk [] = refl
code_digits-length ijk (c ∷ cs) = step (code_digits-length ijk cs) (is_among c (codes "Kn"))
  where
    step : length (code_digits ijk cs) ≡ digits_in cs → (t : Bool) → length (if t then [] else digit_in ijk c ∷ code_digits ijk cs) ≡ (if t then 0 else suc (digits_in cs))
    step behind true = refl
    step behind false = ap suc behind

grown : (a d power : ℕ) → d < 8 → (a * 8 + d + 1) * power ≤ (a + 1) * (power * 8)
grown a d power small = let h : a * 8 + d + 1 ≤ a * 8 + 8 = omega arith in omega (arith, mul-le-mul_right power h)

-- octal digits make a number that has three bits for each
octal_number-below : (a : ℕ) (ds : List ℕ) → AllByRecursion (λ d. d < 8) ds → octal_number a ds < (a + 1) * 8 ^ length ds
octal_number-below a [] h = omega arith
octal_number-below a (d ∷ ds) h =
    let rest : octal_number (a * 8 + d) ds < (a * 8 + d + 1) * 8 ^ length ds = octal_number-below (a * 8 + d) ds h.1 in
    let more : (a * 8 + d + 1) * 8 ^ length ds ≤ (a + 1) * (8 ^ length ds * 8) = grown a d (8 ^ length ds) h.0 in
    rw pow-succ (omega arith)

-- what fits, if anything, is whole
abbrev pub IsWholeIf : Option Instruction → Type 0
IsWholeIf None = Unit {0}
IsWholeIf (Some instruction) = IsWhole instruction

-- whether a code of at most ten digits fills parcels with a field of so many bits
abbrev is_filling : List ℕ → ℕ → Bool
is_filling code width = is_code code && (nat_le (digits_in code) 10 && nat_eq ((3 * digits_in code + width) % 15) 0)

-- the instruction of such a code is whole
filling-whole : (code : List ℕ) (found : Match) (width : ℕ) → is_filling code width ≡ true → AreOctal found.ijk → field_width found.field ≡ width → IsWhole (instruction_of code found)
filling-whole code found width e h same =
    let ds = code_digits found.ijk code in
    let sizes = and_right (is_code code) (nat_le (digits_in code) 10 && nat_eq ((3 * digits_in code + width) % 15) 0) e in
    let is : is_code code ≡ true = and_left (is_code code) (nat_le (digits_in code) 10 && nat_eq ((3 * digits_in code + width) % 15) 0) e in
    let few : digits_in code ≤ 10 = leb-true (digits_in code) 10 (and_left (nat_le (digits_in code) 10) (nat_eq ((3 * digits_in code + width) % 15) 0) sizes) in
    let fills : (3 * digits_in code + width) % 15 ≡ 0 = eqb-true _ 0 (and_right (nat_le (digits_in code) 10) (nat_eq ((3 * digits_in code + width) % 15) 0) sizes) in
    let below : octal_number 0 ds < (0 + 1) * 8 ^ length ds = octal_number-below 0 ds (code_digits-octal found.ijk code h is) in
    let count : length ds ≡ digits_in code = code_digits-length found.ijk code in
    record { room = omega arith; few = rw count few; fills = rw (count, same) fills }

no_ijk-octal : AreOctal no_ijk
no_ijk-octal = (omega arith, (omega arith, omega arith))

-- rows that all pass a test
all_pass : {X : Type 0} (p : X → Bool) (xs : List X) → list_all p xs ≡ true → AllByRecursion (λ x. p x ≡ true) xs
all_pass p [] e = tt
all_pass p (x ∷ xs) e = (and_left (p x) (list_all p xs) e, all_pass p xs (and_right (p x) (list_all p xs) e))

-- what rows that are picked make is whole where each row makes it so
fits-whole : {X : Type 0} (test pick : X → Bool) (fit : X → Option Instruction) (xs : List X) → ((x : X) → test x ≡ true → IsWholeIf (fit x)) →
    AllByRecursion (λ x. test x ≡ true) xs → AllByRecursion IsWholeIf (map fit (filter pick xs))
fits-whole test pick fit [] each h = tt
fits-whole test pick fit (x ∷ xs) each h = step (fits-whole test pick fit xs each h.1) (pick x)
  where
    step : AllByRecursion IsWholeIf (map fit (filter pick xs)) → (t : Bool) → AllByRecursion IsWholeIf (map fit (if t then x ∷ filter pick xs else filter pick xs))
    step behind true = (each x h.0, behind)
    step behind false = behind

append_whole : (xs ys : List (Option Instruction)) → AllByRecursion IsWholeIf xs → AllByRecursion IsWholeIf ys → AllByRecursion IsWholeIf (xs ++ ys)
append_whole [] ys h k = k
append_whole (x ∷ xs) ys h k = (h.0, append_whole xs ys h.1 k)

first_fit-whole : (fits : List (Option Instruction)) → AllByRecursion IsWholeIf fits → IsWholeIf (first_fit fits)
first_fit-whole [] h = tt
first_fit-whole (None ∷ fits) h = first_fit-whole fits h.1
first_fit-whole (Some instruction ∷ fits) h = h.0

-- a row whose operand is ignored has no field
abbrev is_ignoring_row : Row → Bool
is_ignoring_row row = is_filling row.code 0

ignoring_fit-whole : (row : Row) → is_ignoring_row row ≡ true → IsWholeIf (ignoring_fit row)
ignoring_fit-whole row e = filling-whole row.code (record { ijk = no_ijk; field = NoField }) 0 e no_ijk-octal refl

-- the bits of the field that patterns of subfields make, behind those so far
abbrev field_bits : List (List ℕ) → ℕ → ℕ
field_bits [] bits = bits
field_bits (pattern ∷ patterns) bits = field_bits patterns (if same_text pattern (codes "K") then 18 else if same_text pattern (codes "n") then 6 else bits)

-- what is found of an operand: octal digits, and a field of so many bits
abbrev IsFound : ℕ → Match → Type 0
IsFound bits found = AreOctal found.ijk × (field_width found.field ≡ bits)

plain_field-found : (field : Expression → Field) (bits : ℕ) (ijk : RegisterDigits) (e : Option Expression) (found : Match) → ((x : Expression) → field_width (field x) ≡ bits) → AreOctal ijk →
    plain_field field ijk e ≡ Some found → IsFound bits found
plain_field-found field bits ijk None found wide h is = cc
plain_field-found field bits ijk (Some e) found wide h is = step (is_plain true e) is
  where
    step : (t : Bool) → (if t then Some (record { ijk = ijk; field = field e }) else None) ≡ Some found → IsFound bits found
    step true is = let same : (let m : Match = record { ijk = ijk; field = field e } in m) ≡ found = cc in subst (IsFound bits) same (h, wide e)
    step false is = cc

with_field-found : (field : Field) (digits : Option RegisterDigits) (found : Match) → ((ijk : RegisterDigits) → digits ≡ Some ijk → AreOctal ijk) → with_field field digits ≡ Some found → IsFound (field_width field) found
with_field-found field None found h is = cc
with_field-found field (Some ijk) found h is = let same : (let m : Match = record { ijk = ijk; field = field } in m) ≡ found = cc in subst (IsFound (field_width field)) same (h ijk refl, refl)

-- one subfield
subfield-found : (base : NumberBase) (pattern : List ℕ) (pieces : List Piece) (so_far next : Match) → AreOctal so_far.ijk → subfield_matched base pattern pieces so_far ≡ Some next →
    IsFound (if same_text pattern (codes "K") then 18 else if same_text pattern (codes "n") then 6 else field_width so_far.field) next
subfield-found base pattern pieces so_far next h e = step (same_text pattern (codes "K")) (same_text pattern (codes "n")) e
  where
    step : (s t : Bool) → (if s then plain_field OfK so_far.ijk (expression_of base pieces) else if t then plain_field OfN so_far.ijk (expression_of base pieces)
        else with_field so_far.field (matched pattern (plain_text pieces) so_far.ijk)) ≡ Some next → IsFound (if s then 18 else if t then 6 else field_width so_far.field) next
    step true t e = plain_field-found OfK 18 so_far.ijk (expression_of base pieces) next (λ x. refl) h e
    step false true e = plain_field-found OfN 6 so_far.ijk (expression_of base pieces) next (λ x. refl) h e
    step false false e = with_field-found so_far.field (matched pattern (plain_text pieces) so_far.ijk) next (λ ijk is. matched-octal pattern (plain_text pieces) so_far.ijk ijk h is) e

none_matched : (base : NumberBase) (patterns : List (List ℕ)) (subfields : List (List Piece)) → subfields_matched base patterns subfields None ≡ None
none_matched base [] [] = refl
none_matched base [] (pieces ∷ others) = refl
none_matched base (pattern ∷ patterns) [] = refl
none_matched base (pattern ∷ patterns) (pieces ∷ others) = refl

-- all subfields
subfields-found : (base : NumberBase) (patterns : List (List ℕ)) (subfields : List (List Piece)) (so_far found : Match) → AreOctal so_far.ijk →
    subfields_matched base patterns subfields (Some so_far) ≡ Some found → IsFound (field_bits patterns (field_width so_far.field)) found
subfields-found base [] [] so_far found h e = let same : so_far ≡ found = cc in subst (IsFound (field_width so_far.field)) same (h, refl)
subfields-found base [] (pieces ∷ others) so_far found h e = cc
subfields-found base (pattern ∷ patterns) [] so_far found h e = cc
subfields-found base (pattern ∷ patterns) (pieces ∷ others) so_far found h e = step (λ next g f. subfields-found base patterns others next found g f) (subfield_matched base pattern pieces so_far) refl e
  where
    step : ((next : Match) → AreOctal next.ijk → subfields_matched base patterns others (Some next) ≡ Some found → IsFound (field_bits patterns (field_width next.field)) found) →
        (next : Option Match) → subfield_matched base pattern pieces so_far ≡ next → subfields_matched base patterns others next ≡ Some found →
        IsFound (field_bits patterns (if same_text pattern (codes "K") then 18 else if same_text pattern (codes "n") then 6 else field_width so_far.field)) found
    step behind None is e = let none = none_matched base patterns others in cc
    step behind (Some next) is e =
        let here = subfield-found base pattern pieces so_far next h is in
        subst (λ n. IsFound (field_bits patterns n) found) here.1 (behind next here.0 e)

-- a row of the table has a field where its operand has K or n
abbrev is_central_row : Row → Bool
is_central_row row = is_filling row.code (field_bits (slice_split (λ c. nat_eq c comma) row.operand) 0)

row_fit-whole : (base : NumberBase) (operation : List ℕ) (subfields : List (List Piece)) (row : Row) → is_central_row row ≡ true → IsWholeIf (row_fit base operation subfields row)
row_fit-whole base operation subfields row e = step (matched row.operation operation no_ijk) refl
  where
    last : (found : Option Match) → ((m : Match) → found ≡ Some m → IsFound (field_bits (slice_split (λ c. nat_eq c comma) row.operand) 0) m) → IsWholeIf (option_map (instruction_of row.code) found)
    last None h = tt
    last (Some found) h = let is = h found refl in filling-whole row.code found _ e is.0 is.1

    step : (digits : Option RegisterDigits) → matched row.operation operation no_ijk ≡ digits →
        IsWholeIf (option_map (instruction_of row.code) (subfields_matched base (slice_split (λ c. nat_eq c comma) row.operand) subfields (with_field NoField digits)))
    step None is = rw none_matched tt
    step (Some ijk) is =
        last (subfields_matched base (slice_split (λ c. nat_eq c comma) row.operand) subfields (Some (record { ijk = ijk; field = NoField })))
        (λ m f. subfields-found base (slice_split (λ c. nat_eq c comma) row.operand) subfields (record { ijk = ijk; field = NoField }) m (matched-octal row.operation operation no_ijk ijk no_ijk-octal is) f)

-- a code that stands there fills parcels with a field of so many bits
abbrev is_sum_code : List ℕ → ℕ → Bool
is_sum_code [] width = true
is_sum_code (c ∷ cs) width = is_filling (c ∷ cs) width

-- a row of sums has K where other terms stand beside its registers
abbrev is_sum_row : SumRow → Bool
is_sum_row row = is_sum_code row.with_K 18 && is_sum_code row.alone 0

sum_code-whole : (code : List ℕ) (width : ℕ) (ijk : RegisterDigits) (field : Field) → is_sum_code code width ≡ true → AreOctal ijk → field_width field ≡ width → nat_le 1 (length code) ≡ true →
    IsWhole (instruction_of code (record { ijk = ijk; field = field }))
sum_code-whole [] width ijk field e h wide some = cc
sum_code-whole (c ∷ cs) width ijk field e h wide some = filling-whole (c ∷ cs) (record { ijk = ijk; field = field }) width e h wide

sum_instruction-whole : (code : List ℕ) (width : ℕ) (sum : Sum) (digits : Option RegisterDigits) → is_sum_code code width ≡ true → field_width (sum_field sum.sign sum.others) ≡ width →
    ((ijk : RegisterDigits) → digits ≡ Some ijk → AreOctal ijk) → IsWholeIf (sum_instruction code sum digits)
sum_instruction-whole code width sum None e wide h = tt
sum_instruction-whole code width sum (Some ijk) e wide h = step (is_plain_field (sum_field sum.sign sum.others)) (nat_le 1 (length code)) refl
  where
    step : (s t : Bool) → nat_le 1 (length code) ≡ t → IsWholeIf (if s && t then Some (instruction_of code (record { ijk = ijk; field = sum_field sum.sign sum.others })) else None)
    step true true is = sum_code-whole code width ijk (sum_field sum.sign sum.others) e (h ijk refl) wide is
    step true false is = tt
    step false t is = tt

registers-octal : (row : SumRow) (sum : Sum) (digits : Option RegisterDigits) (ijk : RegisterDigits) → ((first : RegisterDigits) → digits ≡ Some first → AreOctal first) → option_and_then (matched row.registers sum.registers) digits ≡ Some ijk → AreOctal ijk
registers-octal row sum None ijk h e = cc
registers-octal row sum (Some first) ijk h e = matched-octal row.registers sum.registers first ijk (h first refl) e

sum-whole : (row : SumRow) (sum : Sum) (digits : Option RegisterDigits) (terms : List Term) → sum.others ≡ terms → is_sum_row row ≡ true → ((ijk : RegisterDigits) → digits ≡ Some ijk → AreOctal ijk) →
    IsWholeIf (sum_instruction (sum_code row terms) sum digits)
sum-whole row sum digits [] is e h = sum_instruction-whole row.alone 0 sum digits (and_right (is_sum_code row.with_K 18) (is_sum_code row.alone 0) e) (rw is refl) h
sum-whole row sum digits (term ∷ terms) is e h = sum_instruction-whole row.with_K 18 sum digits (and_left (is_sum_code row.with_K 18) (is_sum_code row.alone 0) e) (rw is refl) h

sum_fit-whole : (operation : List ℕ) (sum : Option Sum) (row : SumRow) → is_sum_row row ≡ true → IsWholeIf (sum_fit operation sum row)
sum_fit-whole operation None row e = tt
sum_fit-whole operation (Some sum) row e =
    let first = matched row.operation operation no_ijk in
    sum-whole row sum (option_and_then (matched row.registers sum.registers) first) sum.others refl e
    (λ ijk is. registers-octal row sum first ijk (λ digits f. matched-octal row.operation operation no_ijk digits no_ijk-octal f) is)

-- an instruction that is found for an operation and its subfields is whole
pub central_of-whole : (base : NumberBase) (operation : List ℕ) (subfields : List (List Piece)) → IsWholeIf (central_of base operation subfields)
central_of-whole base operation subfields =
    first_fit-whole (fits_of base operation subfields)
    (append_whole (map ignoring_fit (rows_for operation ignoring_rows)) _
    (fits-whole is_ignoring_row (λ (row : Row). is_operation row.operation operation) ignoring_fit ignoring_rows ignoring_fit-whole (all_pass is_ignoring_row ignoring_rows refl))
    (append_whole (map (sum_fit operation (sum_read (single base subfields))) (sum_rows_for operation sum_rows)) _
    (fits-whole is_sum_row (λ (row : SumRow). is_operation row.operation operation) (sum_fit operation (sum_read (single base subfields))) sum_rows
    (sum_fit-whole operation (sum_read (single base subfields))) (all_pass is_sum_row sum_rows refl))
    (fits-whole is_central_row (λ (row : Row). is_operation row.operation operation) (row_fit base operation subfields) central_rows
    (row_fit-whole base operation subfields) (all_pass is_central_row central_rows refl))))

-- and so is one that is given
pub central_of-some : (base : NumberBase) (operation : List ℕ) (subfields : List (List Piece)) (instruction : Instruction) → central_of base operation subfields ≡ Some instruction → IsWhole instruction
central_of-some base operation subfields instruction e = subst IsWholeIf e (central_of-whole base operation subfields)
