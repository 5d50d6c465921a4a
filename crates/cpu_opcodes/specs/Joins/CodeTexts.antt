-- Patterns and codes as the manual writes them (COMPASS 60492600, CPU instructions).
use Rattle.std.specs.Prelude.{ℕ, List, [], ◌∷◌, Option, Some, None, codes, if◌then◌else◌}
use Rattle.definitions.specs.Characters.{is_among}
use Rattle.cpu_opcodes.specs.{declared.code.Code.Code, declared.code.Code.TheVariants.{Short, Long}, declared.patterns.OperandPattern.OperandPattern, declared.patterns.SumPattern.SumPattern}
use Rattle.cpu_opcodes.specs.declared.patterns.OperandPattern.TheVariants as operand
use Rattle.cpu_opcodes.specs.declared.patterns.SumPattern.TheVariants as registers

-- K and n once, where they stand for several digits
abbrev pub shortened : List ℕ → List ℕ
shortened [] = []
shortened (c ∷ cs) = if is_among c (codes "Kn") then c ∷ [] else c ∷ shortened cs

-- the text of a code
abbrev pub code_text : Code → List ℕ
code_text (Short digits) = shortened digits
code_text (Long digits) = shortened digits

-- the text of a code, no text where there is none
abbrev pub code_text_or_none : Option Code → List ℕ
code_text_or_none None = []
code_text_or_none (Some code) = code_text code

-- the pattern of an operand
abbrev pub operand_text : OperandPattern → List ℕ
operand_text operand.K = codes "K"
operand_text operand.XjK = codes "Xj,K"
operand_text operand.BiK = codes "Bi,K"
operand_text operand.BiBjK = codes "Bi,Bj,K"
operand_text operand.Xj = codes "Xj"
operand_text operand.XjTimesXk = codes "Xj*Xk"
operand_text operand.XjPlusXk = codes "Xj+Xk"
operand_text operand.XjMinusXk = codes "Xj-Xk"
operand_text operand.MinusXk = codes "-Xk"
operand_text operand.MinusXkTimesXj = codes "-Xk*Xj"
operand_text operand.MinusXkPlusXj = codes "-Xk+Xj"
operand_text operand.MinusXkMinusXj = codes "-Xk-Xj"
operand_text operand.N = codes "n"
operand_text operand.XjOverXk = codes "Xj/Xk"
operand_text operand.Xk = codes "Xk"
operand_text operand.BjXk = codes "Bj,Xk"
operand_text operand.XkBj = codes "Xk,Bj"

-- the registers of a sum
abbrev pub registers_text : SumPattern → List ℕ
registers_text registers.NoRegister = []
registers_text registers.Bi = codes "Bi"
registers_text registers.Aj = codes "Aj"
registers_text registers.Bj = codes "Bj"
registers_text registers.Xj = codes "Xj"
registers_text registers.MinusBk = codes "-Bk"
registers_text registers.XjPlusBk = codes "Xj+Bk"
registers_text registers.BkPlusXj = codes "Bk+Xj"
registers_text registers.AjPlusBk = codes "Aj+Bk"
registers_text registers.BkPlusAj = codes "Bk+Aj"
registers_text registers.AjMinusBk = codes "Aj-Bk"
registers_text registers.MinusBkPlusAj = codes "-Bk+Aj"
registers_text registers.BjPlusBk = codes "Bj+Bk"
registers_text registers.BjMinusBk = codes "Bj-Bk"
registers_text registers.MinusBkPlusBj = codes "-Bk+Bj"
