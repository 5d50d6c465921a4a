-- How an operation and its operand are matched with the rows of the central table.
use Rattle.std.specs.{Prelude.{ℕ, ◌+◌, ◌-◌, ◌*◌, ◌==◌, List, [], ◌∷◌, ◌++◌, Option, Some, None, Bool, true, ◌&&◌, nat_le, codes, length, filter, map, is_some, option_map, option_and_then, if◌then◌else◌}, List.slice_split, Option.option_or}
use Rattle.definitions.specs.{Characters.{same_text, is_among, comma, zero_digit}, Pieces.{Mark, Comma, Plus, Minus, Star, Slash, Equals, Piece, IsMark, IsCountedItem, Plain}, Expressions.{Expression, Sign, PlusSign, Term, Operator, Subtract, Element, ARegister, OperatorElement, expression_of, is_plain}, CentralTable.{Row, SumRow, central_rows, ignoring_rows, sum_rows}, declared.number_base.NumberBase.NumberBase}

-- the digits of i, j and k
pub record RegisterDigits : Type 0 where
  pub i : ℕ
  pub j : ℕ
  pub k : ℕ

-- i in a pattern or a code
abbrev pub place_i : ℕ
place_i = 105

-- j in a pattern or a code
abbrev pub place_j : ℕ
place_j = 106

-- k in a pattern or a code
abbrev pub place_k : ℕ
place_k = 107

-- all three digits 0
abbrev pub no_ijk : RegisterDigits
no_ijk = record { i = 0; j = 0; k = 0 }

-- whether a character of a pattern is i, j or k
abbrev pub is_ijk : ℕ → Bool
is_ijk c = is_among c (codes "ijk")

-- the digits with the one for this place set
abbrev pub with_ijk : ℕ → ℕ → RegisterDigits → RegisterDigits
with_ijk c digit ijk =
    if c == place_i then record ijk { i = digit }
    else if c == place_j then record ijk { j = digit }
    else record ijk { k = digit }

-- 0 to 7
abbrev pub is_octal_digit : ℕ → Bool
is_octal_digit c = nat_le zero_digit c && nat_le c (zero_digit + 7)

-- a text that is a pattern's but for octal digits at its i, j and k
abbrev pub matched : List ℕ → List ℕ → RegisterDigits → Option RegisterDigits
matched [] [] ijk = Some ijk
matched (p ∷ ps) (c ∷ cs) ijk =
    let next = matched ps cs (if is_ijk p then with_ijk p (c - zero_digit) ijk else ijk) in
    if (if is_ijk p then is_octal_digit c else (p == c)) then next else None
matched _ _ ijk = None

-- whether an operation is that of a pattern, as BX6 is BXi
abbrev pub is_operation : List ℕ → List ℕ → Bool
is_operation pattern operation = is_some (matched pattern operation no_ijk)

-- what a field of an instruction is made of
pub data Field : Type 0 where
  NoField : Field
  OfK : Expression → Field
  OfN : Expression → Field

-- an instruction: its digits as a number, how many they are, and the field behind them
pub record Instruction : Type 0 where
  pub digits : ℕ
  pub count : ℕ
  pub field : Field

-- while an operand is matched
pub record Match : Type 0 where
  pub ijk : RegisterDigits
  pub field : Field

-- the text of marks and runs; an item is none
abbrev pub mark_text : Mark → List ℕ
mark_text Comma = codes ","
mark_text Plus = codes "+"
mark_text Minus = codes "-"
mark_text Star = codes "*"
mark_text Slash = codes "/"
mark_text Equals = codes "="

-- a subfield's text for comparing with registers; an item shows as a blank, which no pattern has
abbrev pub plain_text : List Piece → List ℕ
plain_text [] = []
plain_text (IsMark mark ∷ pieces) = mark_text mark ++ plain_text pieces
plain_text (Plain text ∷ pieces) = text ++ plain_text pieces
plain_text (IsCountedItem item ∷ pieces) = codes " "

-- the field K or n of an expression without registers, if there is one
abbrev pub plain_field : (Expression → Field) → RegisterDigits → Option Expression → Option Match
plain_field field ijk found = option_and_then (λ e. if is_plain true e then Some (record { ijk = ijk; field = field e }) else None) found

-- the field beside digits that are found
abbrev pub with_field : Field → Option RegisterDigits → Option Match
with_field field digits = option_map (λ ijk. record { ijk = ijk; field = field }) digits

-- one subfield with its pattern
abbrev pub subfield_matched : NumberBase → List ℕ → List Piece → Match → Option Match
subfield_matched base pattern pieces so_far =
    if same_text pattern (codes "K") then plain_field OfK so_far.ijk (expression_of base pieces)
    else if same_text pattern (codes "n") then plain_field OfN so_far.ijk (expression_of base pieces)
    else with_field so_far.field (matched pattern (plain_text pieces) so_far.ijk)

-- each subfield with its pattern; there must be as many of either
abbrev pub subfields_matched : NumberBase → List (List ℕ) → List (List Piece) → Option Match → Option Match
subfields_matched base [] [] so_far = so_far
subfields_matched base (pattern ∷ patterns) (pieces ∷ others) None = None
subfields_matched base (pattern ∷ patterns) (pieces ∷ others) (Some so_far) = subfields_matched base patterns others (subfield_matched base pattern pieces so_far)
subfields_matched base _ _ so_far = None

-- a digit of a code: that of its place, or itself
abbrev pub digit_in : RegisterDigits → ℕ → ℕ
digit_in ijk c =
    if c == place_i then ijk.i else if c == place_j then ijk.j else if c == place_k then ijk.k else c - zero_digit

-- the digits of a code in front of K or n
abbrev pub code_digits : RegisterDigits → List ℕ → List ℕ
code_digits ijk [] = []
code_digits ijk (c ∷ cs) = if is_among c (codes "Kn") then [] else digit_in ijk c ∷ code_digits ijk cs

-- the number of octal digits, behind those that make the value so far
abbrev pub octal_number : ℕ → List ℕ → ℕ
octal_number value [] = value
octal_number value (digit ∷ digits) = octal_number (value * 8 + digit) digits

-- the instruction that a code makes with the digits and the field found
abbrev pub instruction_of : List ℕ → Match → Instruction
instruction_of code found =
    let digits = code_digits found.ijk code in
    record { digits = octal_number 0 digits; count = length digits; field = found.field }

-- the instruction of a row whose operand is ignored
abbrev pub ignoring_fit : Row → Option Instruction
ignoring_fit row = Some (instruction_of row.code (record { ijk = no_ijk; field = NoField }))

-- the instruction of an operation and its subfields by a row, where they fit it
abbrev pub row_fit : NumberBase → List ℕ → List (List Piece) → Row → Option Instruction
row_fit base operation subfields row =
    option_map (instruction_of row.code) (subfields_matched base (slice_split (λ c. c == comma) row.operand) subfields (with_field NoField (matched row.operation operation no_ijk)))

-- a sum taken apart: the text of the terms that are one register, and the others; beside a register a sign counts as written
pub record Sum : Type 0 where
  pub sign : Sign
  pub registers : List ℕ
  pub others : List Term

-- the sign of a register in a sum; a plus in front of the first one is left out
abbrev pub sign_text : Bool → Operator → List ℕ
sign_text first Subtract = codes "-"
sign_text first _ = if first then [] else codes "+"

-- whether no register stands there yet
abbrev pub is_none_yet : List ℕ → Bool
is_none_yet text = length text == 0

-- a term that is one register joins the registers, every other term the others; beside a register these count as written with a sign, so that an item among
-- them is a number
abbrev pub onto_sum : Term → Element → List OperatorElement → Sum → Sum
onto_sum term (ARegister r) [] sum = record sum { sign = PlusSign; registers = sum.registers ++ (sign_text (is_none_yet sum.registers) term.operator ++ r.letter ∷ (zero_digit + r.digit) ∷ []) }
onto_sum term element pairs sum = record sum { others = sum.others ++ term ∷ [] }

-- a sum with further terms taken apart
abbrev pub sum_of : List Term → Sum → Sum
sum_of [] sum = sum
sum_of (term ∷ terms) sum = sum_of terms (onto_sum term term.element term.factors sum)

-- K is made of the other terms, if there are any
abbrev pub sum_code : SumRow → List Term → List ℕ
sum_code row [] = row.alone
sum_code row (term ∷ terms) = row.with_K

-- the field K of the terms that are no register; no field where there are none
abbrev pub sum_field : Sign → List Term → Field
sum_field sign [] = NoField
sum_field sign (term ∷ terms) = OfK (record { sign = sign; terms = term ∷ terms })

-- whether a field has no register, and no literal that is longer than a word
abbrev pub is_plain_field : Field → Bool
is_plain_field (OfK e) = is_plain true e
is_plain_field _ = true

-- the code of a row for a sum with these digits, where it has one with or without K as needed, and K has no register
abbrev pub sum_instruction : List ℕ → Sum → Option RegisterDigits → Option Instruction
sum_instruction code sum digits =
    let field = sum_field sum.sign sum.others in
    option_and_then (λ ijk. if is_plain_field field && nat_le 1 (length code) then Some (instruction_of code (record { ijk = ijk; field = field })) else None) digits

-- the instruction of an operation and a sum by a row, where they fit it; what is no sum fits none
abbrev pub sum_fit : List ℕ → Option Sum → SumRow → Option Instruction
sum_fit operation sum row =
    option_and_then (λ (s : Sum). sum_instruction (sum_code row s.others) s (option_and_then (matched row.registers s.registers) (matched row.operation operation no_ijk))) sum

-- an expression taken apart, if there is one
abbrev pub sum_read : Option Expression → Option Sum
sum_read read = option_map (λ (e : Expression). sum_of e.terms (record { sign = e.sign; registers = []; others = [] })) read

-- the operand of a sum is one subfield
abbrev pub single : NumberBase → List (List Piece) → Option Expression
single base (pieces ∷ []) = expression_of base pieces
single base _ = None

-- the rows of an operation
abbrev pub rows_for : List ℕ → List Row → List Row
rows_for operation rows = filter (λ (row : Row). is_operation row.operation operation) rows

-- the rows of an operation whose operand is a sum
abbrev pub sum_rows_for : List ℕ → List SumRow → List SumRow
sum_rows_for operation rows = filter (λ (row : SumRow). is_operation row.operation operation) rows

-- what the rows of an operation make of its operand, row by row
abbrev pub fits_of : NumberBase → List ℕ → List (List Piece) → List (Option Instruction)
fits_of base operation subfields =
    map ignoring_fit (rows_for operation ignoring_rows)
    ++ (map (sum_fit operation (sum_read (single base subfields))) (sum_rows_for operation sum_rows)
    ++ map (row_fit base operation subfields) (rows_for operation central_rows))

-- the instruction of the first row that fits
abbrev pub first_fit : List (Option Instruction) → Option Instruction
first_fit [] = None
first_fit (fit ∷ fits) = option_or fit (first_fit fits)

-- the instruction of an operation with its subfields, if a row of the operation fits them
abbrev pub central_of : NumberBase → List ℕ → List (List Piece) → Option Instruction
central_of base operation subfields = first_fit (fits_of base operation subfields)
