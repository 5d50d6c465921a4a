-- Codes that are written in octal digits (ours).
use Rattle.std.specs.{Prelude.{ℕ, List, Option, Some, None, Bool, true, ◌&&◌, nat_lt, nat_le, length}, List.list_all}
use Rattle.definitions.specs.Matching.{RegisterDigits, code_digits}
use Rattle.cpu_opcodes.specs.{declared.code.Row.Row, declared.code.Code.Code, declared.code.OperandForm.OperandForm, declared.code.SumForm.SumForm, Joins.CodeTexts.code_text}

-- the greatest registers
abbrev pub sevens : RegisterDigits
sevens = record { i = 7; j = 7; k = 7 }

-- whether all digits are octal
abbrev pub are_octal : List ℕ → Bool
are_octal digits = list_all (λ d. nat_lt d 8) digits

-- whether a code has digits, and they are octal
abbrev pub is_lawful : Code → Bool
is_lawful code = nat_le 1 (length (code_text code)) && are_octal (code_digits sevens (code_text code))

-- the same, if there is a code
abbrev pub is_lawful_or_none : Option Code → Bool
is_lawful_or_none None = true
is_lawful_or_none (Some code) = is_lawful code

-- whether each code of a row is lawful
abbrev pub has_lawful_code : Row OperandForm → Bool
has_lawful_code row = is_lawful row.form.code

abbrev pub is_lawful_row : Row Code → Bool
is_lawful_row row = is_lawful row.form

abbrev pub has_lawful_codes : Row SumForm → Bool
has_lawful_codes row = is_lawful_or_none row.form.with_k && is_lawful_or_none row.form.alone
