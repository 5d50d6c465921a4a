-- The peripheral instructions (6600 reference 60100000, peripheral instructions; COMPASS 60492600, PPU instructions).
use Rattle.std.specs.{Prelude.{ℕ, ◌+◌, List, [], ◌∷◌, ◌++◌, codes, Option, Some, None, if◌then◌else◌, ◌==◌}, List.slice_split}
use Rattle.definitions.specs.Characters.{same_text, blank}

-- what stands behind the two digits of the operation
pub data PeripheralForm : Type 0 where
  -- nothing is read, and d is 0
  Ignored : PeripheralForm
  -- d in 6 bits
  Short : PeripheralForm
  -- a displacement in 6 bits
  ShortJump : PeripheralForm
  -- d from -37 to 37 octal
  Shift : PeripheralForm
  -- an 18-bit value in d and a second word
  Wide : PeripheralForm
  -- m in a second word, and d
  Long : PeripheralForm

-- an operation, its code of two octal digits, and what stands behind them
pub record PeripheralRow : Type 0 where
  pub operation : List ℕ
  pub code : ℕ
  pub form : PeripheralForm

-- operations with one form, from one code on
abbrev pub from_code : ℕ → PeripheralForm → List (List ℕ) → List PeripheralRow
from_code code form [] = []
from_code code form (operation ∷ operations) = record { operation = operation; code = code; form = form } ∷ from_code (code + 1) form operations

-- operations with a blank between them
abbrev pub named : List ℕ → List (List ℕ)
named text = slice_split (λ c. c == blank) text

-- the peripheral instructions in the order of their codes
abbrev pub peripheral_rows : List PeripheralRow
peripheral_rows =
    from_code 0o00 Ignored (named (codes "PSN"))
    ++ (from_code 0o01 Long (named (codes "LJM RJM"))
    ++ (from_code 0o03 ShortJump (named (codes "UJN ZJN NJN PJN MJN"))
    ++ (from_code 0o10 Shift (named (codes "SHN"))
    ++ (from_code 0o11 Short (named (codes "LMN LPN SCN LDN LCN ADN SBN"))
    ++ (from_code 0o20 Wide (named (codes "LDC ADC LPC LMC"))
    ++ (from_code 0o26 Short (named (codes "EXN RPN"))
    ++ (from_code 0o30 Short (named (codes "LDD ADD SBD LMD STD RAD AOD SOD LDI ADI SBI LMI STI RAI AOI SOI"))
    ++ (from_code 0o50 Long (named (codes "LDM ADM SBM LMM STM RAM AOM SOM"))
    ++ (from_code 0o60 Short (named (codes "CRD"))
    ++ (from_code 0o61 Long (named (codes "CRM"))
    ++ (from_code 0o62 Short (named (codes "CWD"))
    ++ (from_code 0o63 Long (named (codes "CWM AJM IJM FJM EJM"))
    ++ (from_code 0o70 Short (named (codes "IAN"))
    ++ (from_code 0o71 Long (named (codes "IAM"))
    ++ (from_code 0o72 Short (named (codes "OAN"))
    ++ (from_code 0o73 Long (named (codes "OAM"))
    ++ (from_code 0o74 Short (named (codes "ACN DCN FAN"))
    ++ from_code 0o77 Long (named (codes "FNC")))))))))))))))))))

-- the row of an operation, if it has one
abbrev pub row_among : List ℕ → List PeripheralRow → Option PeripheralRow
row_among operation [] = None
row_among operation (row ∷ rows) = if same_text row.operation operation then Some row else row_among operation rows

-- the row of an operation in the peripheral table, if it has one
abbrev pub peripheral_row : List ℕ → Option PeripheralRow
peripheral_row operation = row_among operation peripheral_rows
