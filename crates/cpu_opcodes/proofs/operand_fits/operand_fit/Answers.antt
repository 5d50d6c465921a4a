use Rattle.std.proofs.Common.{Some, subst, ap, ◌∙◌}
use Rattle.definitions.specs.Matching.{NoField, Match, subfields_matched}
use Rattle.expr_forms.specs.Joins.Operands.{IsOperand}
use Rattle.cpu_opcodes.{specs.Joins.RegistersFound.digits_as, specs.Joins.Parts.part_text, proofs.FitLaws.three_of_two}
use Rattle.cpu_opcodes.proofs.operand_fits.operand_fit.Goals as goal

pub returns-in-Two-operand-3 : goal.returns-in-Two-operand-3
returns-in-Two-operand-3 c base subfields h =
    let start : Match = record { ijk = digits_as c.args.registers; field = NoField } in
    three_of_two base subfields (part_text c.in-Three.p) (part_text c.in-Three.q) (part_text c.in-Three.r) c.in-Two-operand-3.field-0 c.in-Two-operand-3.field-1 c.in-Two-operand-3.field-2 start
    (subst (λ o. IsOperand base subfields o) c.in-Two-operand-3.is h)
    ∙ ap (λ l. subfields_matched base l subfields (Some start)) c.in-Three.ensures.texts
