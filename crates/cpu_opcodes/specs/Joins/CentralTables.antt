-- The rows of the code's tables and of the definitions' (COMPASS 60492600, CPU instructions), both with names of three characters.
use Rattle.std.specs.Prelude.{ℕ, ◌==◌, Bool, true, false, ◌&&◌, List, [], ◌∷◌, map, filter}
use Rattle.definitions.specs.CentralTable as table
use Rattle.definitions.specs.{CentralTable.{SumRow, ignoring_rows, sum_rows, central_rows}, Matching.{is_octal_digit, is_operation}}
use Rattle.cpu_opcodes.specs.{declared.code.Row.Row, declared.code.Code.Code, declared.code.OperandForm.OperandForm, declared.code.SumForm.SumForm, Joins.CodeTexts.{code_text, code_text_or_none, operand_text, registers_text}}

-- a row of the code as the definitions have one
abbrev pub operand_row : Row OperandForm → table.Row
operand_row row = record { operation = row.name; operand = operand_text row.form.operand; code = code_text row.form.code }

abbrev pub code_row : Row Code → table.Row
code_row row = record { operation = row.name; operand = []; code = code_text row.form }

abbrev pub sum_row : Row SumForm → SumRow
sum_row row = record { operation = row.name; registers = registers_text row.form.registers; with_K = code_text_or_none row.form.with_k; alone = code_text_or_none row.form.alone }

-- a name of two letters with a blank behind them
abbrev pub padded : List ℕ → List ℕ
padded (a ∷ b ∷ []) = a ∷ b ∷ 32 ∷ []
padded name = name

-- a row of the definitions with a name of three characters
abbrev pub padded_row : table.Row → table.Row
padded_row row = record row { operation = padded row.operation }

abbrev pub padded_sum_row : SumRow → SumRow
padded_sum_row row = record row { operation = padded row.operation }

-- the rows of an operation in each of the definitions' tables
abbrev pub ignoring_rows_of : List ℕ → List table.Row
ignoring_rows_of operation = map padded_row (filter (λ (row : table.Row). is_operation row.operation operation) ignoring_rows)

abbrev pub operand_rows_of : List ℕ → List table.Row
operand_rows_of operation = map padded_row (filter (λ (row : table.Row). is_operation row.operation operation) central_rows)

abbrev pub sum_rows_of : List ℕ → List SumRow
sum_rows_of operation = map padded_sum_row (filter (λ (row : SumRow). is_operation row.operation operation) sum_rows)

-- whether an operation is two letters, or has X and an octal digit behind its first
abbrev pub is_shaped : List ℕ → Bool
is_shaped (a ∷ b ∷ []) = true
is_shaped (a ∷ b ∷ c ∷ []) = (88 == b) && is_octal_digit c
is_shaped _ = false

-- whether a list has an element
abbrev pub is_some_of : {A : Type 0} → List A → Bool
is_some_of [] = false
is_some_of (x ∷ xs) = true
