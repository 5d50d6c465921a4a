use Rattle.std.{proofs.Common.{◌≡◌, Some, map, length}, specs.Prelude.IsTrue, specs.List.list_all}
use Rattle.definitions.specs.Matching.{Sum, first_fit}
use Rattle.cpu_opcodes.specs.{declared.code.Row.Row, declared.code.SumForm.SumForm, Joins.RegistersFound.digits_as, Joins.CentralTables.sum_row, Joins.LawfulCodes.has_lawful_codes, Joins.Fits.sum_fit_with}
use Rattle.expr_forms.specs.Joins.Sums.{IsSum}
use Rattle.cpu_opcodes.proofs.sum_fits.first_fit.Given as goal

-- no row before those that are left fits
abbrev pub invariant-rows : goal.invariant-rows
invariant-rows l = record {
  left : (of : Sum) → IsSum l.sum of →
      first_fit (map (λ (row : Row SumForm). sum_fit_with (digits_as l.fn.registers) (Some of) (sum_row row)) l.rest)
      ≡ first_fit (map (λ (row : Row SumForm). sum_fit_with (digits_as l.fn.registers) (Some of) (sum_row row)) l.rows);
  lawful : IsTrue (list_all has_lawful_codes l.rest);
}

abbrev pub decreases-rows : goal.decreases-rows
decreases-rows l = length l.rest
