use Rattle.std.proofs.Common.{subst}
use Rattle.expr_forms.specs.Joins.Sums.{AreRegisters}
use Rattle.cpu_opcodes.{specs.Joins.RegistersFound.digits_as, proofs.SumLaws.too_many-fit}
use Rattle.cpu_opcodes.proofs.sum_fits.registers_fit.Goals as goal

pub returns-in-TooMany : goal.returns-in-TooMany
returns-in-TooMany c text h = too_many-fit c.args.pattern text (digits_as c.args.found) (subst (λ r. AreRegisters r text) c.in-TooMany.is h)
