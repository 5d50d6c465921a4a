-- The central instructions (6600 reference 60100000, instruction formats; COMPASS 60492600, CPU instructions).
-- In a row i, j and k are digits of registers, K is an expression in 18 bits and n one in 6 bits; a code has a digit for
-- each three bits, and K and n stand at its end.
use Rattle.std.specs.Prelude.{ℕ, List, [], ◌∷◌, ◌++◌, codes}

-- an operation, the pattern of its operand, and its code
pub record Row : Type 0 where
  pub operation : List ℕ
  pub operand : List ℕ
  pub code : List ℕ

-- an operation, a pattern and a code as a row
abbrev pub row : List ℕ → List ℕ → List ℕ → Row
row operation operand code = record { operation = operation; operand = operand; code = code }

-- return jump, and the branches on an X register or on one B register
abbrev pub jump_rows : List Row
jump_rows =
    row (codes "RJ") (codes "K") (codes "0100K")
    ∷ row (codes "ZR") (codes "Xj,K") (codes "030jK")
    ∷ row (codes "NZ") (codes "Xj,K") (codes "031jK")
    ∷ row (codes "PL") (codes "Xj,K") (codes "032jK")
    ∷ row (codes "NG") (codes "Xj,K") (codes "033jK")
    ∷ row (codes "MI") (codes "Xj,K") (codes "033jK")
    ∷ row (codes "IR") (codes "Xj,K") (codes "034jK")
    ∷ row (codes "OR") (codes "Xj,K") (codes "035jK")
    ∷ row (codes "DF") (codes "Xj,K") (codes "036jK")
    ∷ row (codes "ID") (codes "Xj,K") (codes "037jK")
    ∷ row (codes "ZR") (codes "Bi,K") (codes "04i0K")
    ∷ row (codes "NZ") (codes "Bi,K") (codes "05i0K")
    ∷ row (codes "PL") (codes "Bi,K") (codes "06i0K")
    ∷ row (codes "NG") (codes "Bi,K") (codes "07i0K")
    ∷ row (codes "MI") (codes "Bi,K") (codes "07i0K")
    ∷ []

-- jumps that compare two B registers; a missing one is B0
abbrev pub comparing_rows : List Row
comparing_rows =
    row (codes "EQ") (codes "K") (codes "0400K")
    ∷ row (codes "EQ") (codes "Bi,Bj,K") (codes "04ijK")
    ∷ row (codes "NE") (codes "Bi,Bj,K") (codes "05ijK")
    ∷ row (codes "GE") (codes "Bi,Bj,K") (codes "06ijK")
    ∷ row (codes "LT") (codes "Bi,Bj,K") (codes "07ijK")
    ∷ row (codes "LE") (codes "Bi,Bj,K") (codes "06jiK")
    ∷ row (codes "GT") (codes "Bi,Bj,K") (codes "07jiK")
    ∷ row (codes "EQ") (codes "Bi,K") (codes "04i0K")
    ∷ row (codes "NE") (codes "Bi,K") (codes "05i0K")
    ∷ row (codes "GE") (codes "Bi,K") (codes "06i0K")
    ∷ row (codes "LT") (codes "Bi,K") (codes "07i0K")
    ∷ row (codes "LE") (codes "Bi,K") (codes "060iK")
    ∷ row (codes "GT") (codes "Bi,K") (codes "070iK")
    ∷ []

-- copies and complements of X registers, and their logical products, sums and differences
abbrev pub boolean_rows : List Row
boolean_rows =
    row (codes "BXi") (codes "Xj") (codes "10ijj")
    ∷ row (codes "BXi") (codes "Xj*Xk") (codes "11ijk")
    ∷ row (codes "BXi") (codes "Xj+Xk") (codes "12ijk")
    ∷ row (codes "BXi") (codes "Xj-Xk") (codes "13ijk")
    ∷ row (codes "BXi") (codes "-Xk") (codes "14ikk")
    ∷ row (codes "BXi") (codes "-Xk*Xj") (codes "15ijk")
    ∷ row (codes "BXi") (codes "-Xk+Xj") (codes "16ijk")
    ∷ row (codes "BXi") (codes "-Xk-Xj") (codes "17ijk")
    ∷ []

-- the three operands of a shift, normalize, unpack or pack instruction
abbrev pub shift_rows : List ℕ → List ℕ → List Row
shift_rows operation digits =
    row operation (codes "Bj,Xk") (digits ++ codes "ijk")
    ∷ row operation (codes "Xk,Bj") (digits ++ codes "ijk")
    ∷ row operation (codes "Xk") (digits ++ codes "i0k")
    ∷ []

-- shifts and masks with a count, floating and integer arithmetic, and the count of ones
abbrev pub arithmetic_rows : List Row
arithmetic_rows =
    row (codes "LXi") (codes "n") (codes "20in")
    ∷ row (codes "AXi") (codes "n") (codes "21in")
    ∷ row (codes "MXi") (codes "n") (codes "43in")
    ∷ row (codes "FXi") (codes "Xj+Xk") (codes "30ijk")
    ∷ row (codes "FXi") (codes "Xj-Xk") (codes "31ijk")
    ∷ row (codes "DXi") (codes "Xj+Xk") (codes "32ijk")
    ∷ row (codes "DXi") (codes "Xj-Xk") (codes "33ijk")
    ∷ row (codes "RXi") (codes "Xj+Xk") (codes "34ijk")
    ∷ row (codes "RXi") (codes "Xj-Xk") (codes "35ijk")
    ∷ row (codes "IXi") (codes "Xj+Xk") (codes "36ijk")
    ∷ row (codes "IXi") (codes "Xj-Xk") (codes "37ijk")
    ∷ row (codes "FXi") (codes "Xj*Xk") (codes "40ijk")
    ∷ row (codes "RXi") (codes "Xj*Xk") (codes "41ijk")
    ∷ row (codes "DXi") (codes "Xj*Xk") (codes "42ijk")
    ∷ row (codes "IXi") (codes "Xj*Xk") (codes "42ijk")
    ∷ row (codes "FXi") (codes "Xj/Xk") (codes "44ijk")
    ∷ row (codes "RXi") (codes "Xj/Xk") (codes "45ijk")
    ∷ row (codes "CXi") (codes "Xk") (codes "47ikk")
    ∷ []

-- the rows whose operand is read subfield by subfield
abbrev pub central_rows : List Row
central_rows =
    jump_rows ++ (comparing_rows ++ (boolean_rows ++ (arithmetic_rows
    ++ (shift_rows (codes "LXi") (codes "22") ++ (shift_rows (codes "AXi") (codes "23") ++ (shift_rows (codes "NXi") (codes "24")
    ++ (shift_rows (codes "ZXi") (codes "25") ++ (shift_rows (codes "UXi") (codes "26") ++ shift_rows (codes "PXi") (codes "27")))))))))

-- the rows whose operand is ignored
abbrev pub ignoring_rows : List Row
ignoring_rows = row (codes "PS") [] (codes "0000000000") ∷ row (codes "NO") [] (codes "46000") ∷ []

-- a row whose operand is a sum: the registers in it, and the code where other terms make K and where there is none
pub record SumRow : Type 0 where
  pub operation : List ℕ
  pub registers : List ℕ
  pub with_K : List ℕ
  pub alone : List ℕ

-- an operation, the registers of its sum, and its two codes as a row
abbrev pub sum_row : List ℕ → List ℕ → List ℕ → List ℕ → SumRow
sum_row operation registers with_K alone = record { operation = operation; registers = registers; with_K = with_K; alone = alone }

-- SAi, SBi and SXi, whose codes begin with 5, 6 and 7; the registers stand in any order, but for two B that are added
abbrev pub set_rows : List ℕ → List ℕ → List SumRow
set_rows operation first =
    sum_row operation [] (first ++ codes "1i0K") []
    ∷ sum_row operation (codes "Aj") (first ++ codes "0ijK") (first ++ codes "4ij0")
    ∷ sum_row operation (codes "Bj") (first ++ codes "1ijK") (first ++ codes "6ij0")
    ∷ sum_row operation (codes "Xj") (first ++ codes "2ijK") (first ++ codes "3ij0")
    ∷ sum_row operation (codes "-Bk") [] (first ++ codes "7i0k")
    ∷ sum_row operation (codes "Xj+Bk") [] (first ++ codes "3ijk")
    ∷ sum_row operation (codes "Bk+Xj") [] (first ++ codes "3ijk")
    ∷ sum_row operation (codes "Aj+Bk") [] (first ++ codes "4ijk")
    ∷ sum_row operation (codes "Bk+Aj") [] (first ++ codes "4ijk")
    ∷ sum_row operation (codes "Aj-Bk") [] (first ++ codes "5ijk")
    ∷ sum_row operation (codes "-Bk+Aj") [] (first ++ codes "5ijk")
    ∷ sum_row operation (codes "Bj+Bk") [] (first ++ codes "6ijk")
    ∷ sum_row operation (codes "Bj-Bk") [] (first ++ codes "7ijk")
    ∷ sum_row operation (codes "-Bk+Bj") [] (first ++ codes "7ijk")
    ∷ []

-- the rows of JP, and of all that sets an A, B or X register
abbrev pub sum_rows : List SumRow
sum_rows =
    sum_row (codes "JP") [] (codes "0200K") []
    ∷ sum_row (codes "JP") (codes "Bi") (codes "02i0K") (codes "02i0000000")
    ∷ (set_rows (codes "SAi") (codes "5") ++ (set_rows (codes "SBi") (codes "6") ++ set_rows (codes "SXi") (codes "7")))
