use Rattle.std.{proofs.Common.{◌≡◌, List, map, length}, specs.Prelude.IsTrue, specs.List.list_all}
use Rattle.definitions.specs.{Pieces.Piece, Matching.first_fit, declared.number_base.NumberBase.NumberBase}
use Rattle.cpu_opcodes.specs.{declared.code.Row.Row, declared.code.OperandForm.OperandForm, Joins.RegistersFound.digits_as, Joins.CentralTables.operand_row, Joins.LawfulCodes.has_lawful_code, Joins.Fits.row_fit_with}
use Rattle.expr_forms.specs.Joins.Operands.{IsOperand}
use Rattle.cpu_opcodes.proofs.central_fits.first_fit.Given as goal

-- no row before those that are left fits
abbrev pub invariant-rows : goal.invariant-rows
invariant-rows l = record {
  left : (base : NumberBase) (subfields : List (List Piece)) → IsOperand base subfields l.operand →
      first_fit (map (λ (row : Row OperandForm). row_fit_with base (digits_as l.fn.registers) subfields (operand_row row)) l.rest)
      ≡ first_fit (map (λ (row : Row OperandForm). row_fit_with base (digits_as l.fn.registers) subfields (operand_row row)) l.rows);
  lawful : IsTrue (list_all has_lawful_code l.rest);
}

abbrev pub decreases-rows : goal.decreases-rows
decreases-rows l = length l.rest
