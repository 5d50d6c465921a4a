use Rattle.std.proofs.{Common.{ap, ◌∙◌}, lemmas.Bool.and_parts}
use Rattle.definitions.specs.Matching.{sum_code, sum_instruction}
use Rattle.cpu_opcodes.{specs.Joins.RegistersFound.digits_as, specs.Joins.CodeTexts.code_text_or_none, specs.Joins.CentralTables.sum_row, specs.Joins.LawfulCodes.is_lawful_or_none, specs.Joins.Fits.form_fit, proofs.SumLaws.sum-form}
use Rattle.cpu_opcodes.proofs.sum_fits.row_fit.Goals as goal

pub form_fit-requires-clause-with_k : goal.form_fit-requires-clause-with_k
form_fit-requires-clause-with_k c = (and_parts (is_lawful_or_none c.args.row.now.form.with_k) (is_lawful_or_none c.args.row.now.form.alone) c.requires).0

pub form_fit-requires-clause-alone : goal.form_fit-requires-clause-alone
form_fit-requires-clause-alone c = (and_parts (is_lawful_or_none c.args.row.now.form.with_k) (is_lawful_or_none c.args.row.now.form.alone) c.requires).1

pub returns-in-Some : goal.returns-in-Some
returns-in-Some c of h =
    let form = c.args.row.now.form in
    c.form_fit.ensures
    ∙ ap (form_fit (code_text_or_none form.with_k) (code_text_or_none form.alone) (digits_as c.in-Some.found)) h.1
    ∙ sum-form (sum_row c.args.row.now) of (digits_as c.in-Some.found)
    ∙ ap (sum_instruction (sum_code (sum_row c.args.row.now) of.others) of) (c.in-Some.ensures of.registers h.0)

pub returns-in-None : goal.returns-in-None
returns-in-None c of h =
    ap (sum_instruction (sum_code (sum_row c.args.row.now) of.others) of) (c.in-None.ensures of.registers h.0)
