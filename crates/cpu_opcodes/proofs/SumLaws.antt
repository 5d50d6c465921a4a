-- Sums against rows.
use Rattle.std.{proofs.Common.{◌≡◌, ℕ, ◌-◌, ◌<◌, ◌≤◌, Bool, true, false, cond, ◌&&◌, List, [], ◌∷◌, Option, Some, None, length, map, eqb, refl, sym, ap, ◌∙◌, arith}, specs.Prelude.nat_le}
use Rattle.definitions.specs.{Expressions.{Sign, Term, Expression, is_plain}, CentralTable.SumRow, Matching.{RegisterDigits, is_ijk, is_octal_digit, with_ijk, matched, OfK, Sum, instruction_of, sum_field, sum_code, sum_instruction, sum_fit, single, sum_rows_for, sum_read, Instruction, first_fit}, Pieces.Piece, declared.number_base.NumberBase.NumberBase}
use Rattle.definitions.specs.CentralTable as table
use Rattle.cpu_opcodes.{specs.declared.code.Row.Row, specs.declared.code.SumForm.SumForm, specs.Joins.CentralTables.{sum_row, sum_rows_of, is_some_of}, specs.Joins.Fits.{named_digits, form_fit}, proofs.RowLaws.sum-fits, specs.declared.patterns.SumPattern.SumPattern, specs.Joins.CodeTexts.registers_text}
use Rattle.expr_forms.specs.{Joins.Operands.IsOperand, declared.operands.Operand.Operand}
use Rattle.expr_forms.specs.declared.operands.Operand.TheVariants as operand
use Rattle.cpu_opcodes.specs.declared.patterns.SumPattern.TheVariants as registers

cond_same : {A : Type 0} (b : Bool) (x : A) → cond b x x ≡ x
cond_same true x = refl
cond_same false x = refl

-- a text that is longer than a pattern does not fit it
too_long : (ps cs : List ℕ) (ijk : RegisterDigits) → length ps < length cs → matched ps cs ijk ≡ None
too_long [] [] ijk longer = absurd (omega (arith, longer))
too_long [] (c ∷ cs) ijk longer = refl
too_long (p ∷ ps) [] ijk longer = refl
too_long (p ∷ ps) (c ∷ cs) ijk longer =
    let fits = cond (is_ijk p) (is_octal_digit c) (eqb p c) in
    let next = cond (is_ijk p) (with_ijk p (c - 48) ijk) ijk in
    ap (λ o. cond fits o None) (too_long ps cs next (omega (arith, longer))) ∙ cond_same fits None

short_text : (pattern : SumPattern) → length (registers_text pattern) ≤ 6
short_text registers.NoRegister = omega arith
short_text pattern = omega arith

-- registers of more than 6 characters fit no row
pub too_many-fit : (pattern : SumPattern) (text : List ℕ) (ijk : RegisterDigits) → 6 < length text → None ≡ matched (registers_text pattern) text ijk
too_many-fit pattern text ijk many = sym (too_long (registers_text pattern) text ijk (let short = short_text pattern in omega (arith, short, many)))

both_tests : {A : Type 0} (a b : Bool) (x y : A) → cond a (cond b x y) y ≡ cond (a && b) x y
both_tests true b x y = refl
both_tests false b x y = refl

sum-form_by : (row : SumRow) (sign : Sign) (registers : List ℕ) (others : List Term) (ijk : RegisterDigits) →
    form_fit row.with_K row.alone ijk (sum_field sign others) ≡ sum_instruction (sum_code row others) (record { sign = sign; registers = registers; others = others }) (Some ijk)
sum-form_by row sign registers [] ijk = refl
sum-form_by row sign registers (term ∷ terms) ijk =
    let e : Expression = record { sign = sign; terms = term ∷ terms } in
    both_tests (is_plain true e) (nat_le 1 (length row.with_K)) (Some (instruction_of row.with_K (record { ijk = ijk; field = OfK e }))) None

-- the codes of a row with the field K of a sum
pub sum-form : (row : SumRow) (sum : Sum) (ijk : RegisterDigits) → form_fit row.with_K row.alone ijk (sum_field sum.sign sum.others) ≡ sum_instruction (sum_code row sum.others) sum (Some ijk)
sum-form row sum ijk = sum-form_by row sum.sign sum.registers sum.others ijk

-- the expression that is the one subfield of an operand; more subfields are none
abbrev pub single_of : Operand → Option Expression
single_of (operand.One x) = Some x.expression
single_of other = None

single-operand : (base : NumberBase) (subfields : List (List Piece)) (o : Operand) → IsOperand base subfields o → single base subfields ≡ single_of o
single-operand base (a ∷ []) (operand.One x) h = h.1
single-operand base (a ∷ b ∷ []) (operand.Two x y known) h = refl
single-operand base (a ∷ b ∷ c ∷ []) (operand.Three x y z) h = refl
single-operand base subfields o h = absurd h

-- what the rows of sums make of an operand
abbrev pub sums_of : List ℕ → Option Expression → Option Instruction
sums_of operation e = first_fit (map (sum_fit operation (sum_read e)) (sum_rows_for operation table.sum_rows))

pub sums-operand : (base : NumberBase) (operation : List ℕ) (subfields : List (List Piece)) (given o : Operand) → given ≡ o → IsOperand base subfields given → sums_of operation (single_of o) ≡ sums_of operation (single base subfields)
sums-operand base operation subfields given o is h = ap (sums_of operation) (ap single_of (sym is) ∙ sym (single-operand base subfields given h))

-- where the code has no rows of sums, none fits
pub no_rows-fit : (operation : List ℕ) (sum : Option Sum) (rows : List (Row SumForm)) → is_some_of rows ≡ false → map sum_row rows ≡ sum_rows_of operation →
    None ≡ first_fit (map (sum_fit operation sum) (sum_rows_for operation table.sum_rows))
no_rows-fit operation sum [] none same = ap first_fit (sum-fits operation sum [] (named_digits operation) refl same)
no_rows-fit operation sum (row ∷ rows) none same = absurd (cc)
