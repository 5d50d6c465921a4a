use Rattle.std.proofs.Common.{sym, ap, ◌∙◌}
use Rattle.definitions.specs.Matching.{subfield_matched, with_field}
use Rattle.cpu_opcodes.{specs.Joins.Found.{central_field_as, found_as}, specs.Joins.Parts.{part_text, is_part}, proofs.FitLaws.subfield-registers}
use Rattle.cpu_opcodes.proofs.operand_fits.subfield_fit.Goals as goal

pub returns-in-Some : goal.returns-in-Some
returns-in-Some c base pieces h =
    ap (with_field (central_field_as c.args.found.field)) c.in-Some.ensures
    ∙ sym (subfield-registers base c.in-Registers.pattern.now c.args.subfield.now.text.now pieces (found_as c.args.found) (sym (ap is_part c.in-Registers.is) ∙ c.requires) h.0)
    ∙ ap (λ p. subfield_matched base (part_text p) pieces (found_as c.args.found)) (sym c.in-Registers.is)

pub returns-in-None : goal.returns-in-None
returns-in-None c base pieces h =
    ap (with_field (central_field_as c.args.found.field)) c.in-None.ensures
    ∙ sym (subfield-registers base c.in-Registers.pattern.now c.args.subfield.now.text.now pieces (found_as c.args.found) (sym (ap is_part c.in-Registers.is) ∙ c.requires) h.0)
    ∙ ap (λ p. subfield_matched base (part_text p) pieces (found_as c.args.found)) (sym c.in-Registers.is)
