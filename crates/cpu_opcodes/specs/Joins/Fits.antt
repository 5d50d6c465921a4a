-- What the rows of an operation make of an operand, by the digit that the operation's name has (COMPASS 60492600, CPU instructions).
use Rattle.std.specs.{Prelude.{ℕ, ◌-◌, ◌==◌, List, [], ◌∷◌, Option, Some, None, nat_le, length, option_map, if◌then◌else◌, option_and_then}, List.slice_split}
use Rattle.definitions.specs.{Characters.{comma, zero_digit}, Pieces.Piece, CentralTable.SumRow, Matching.{RegisterDigits, no_ijk, is_octal_digit, matched, Field, NoField, Match, is_plain_field, Instruction, Sum, instruction_of, subfields_matched, sum_code, sum_instruction}, declared.number_base.NumberBase.NumberBase}
use Rattle.definitions.specs.CentralTable as table

-- the digit that the name of an operation has for i: 6 of BX6
abbrev pub named_digits : List ℕ → RegisterDigits
named_digits (a ∷ b ∷ c ∷ []) = if is_octal_digit c then record { i = c - zero_digit; j = 0; k = 0 } else no_ijk
named_digits _ = no_ijk

-- the instruction of subfields by a row
abbrev pub row_fit_with : NumberBase → RegisterDigits → List (List Piece) → table.Row → Option Instruction
row_fit_with base ijk subfields row =
    option_map (instruction_of row.code) (subfields_matched base (slice_split (λ c. c == comma) row.operand) subfields (Some (record { ijk = ijk; field = NoField })))

-- the instruction of a sum by a row, if there is a sum
abbrev pub sum_fit_with : RegisterDigits → Option Sum → SumRow → Option Instruction
sum_fit_with ijk sum row = option_and_then (λ (s : Sum). sum_instruction (sum_code row s.others) s (matched row.registers s.registers ijk)) sum

-- the instruction of a code, where there is one, with what was found
abbrev pub code_fit : List ℕ → Match → Option Instruction
code_fit code found = if nat_le 1 (length code) then Some (instruction_of code found) else None

-- the instruction of a row for a sum, by its codes with K and without it, the digits and the field K
abbrev pub form_fit : List ℕ → List ℕ → RegisterDigits → Field → Option Instruction
form_fit with_k alone ijk NoField = code_fit alone (record { ijk = ijk; field = NoField })
form_fit with_k alone ijk field = if is_plain_field field then code_fit with_k (record { ijk = ijk; field = field }) else None
