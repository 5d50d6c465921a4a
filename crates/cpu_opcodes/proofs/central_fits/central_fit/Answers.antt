use Rattle.std.proofs.Common.{ap, ◌∙◌}
use Rattle.definitions.specs.Matching.{first_fit}
use Rattle.cpu_opcodes.{specs.Joins.RegistersFound.digits_as, proofs.RowLaws.central-fits}
use Rattle.cpu_opcodes.proofs.central_fits.central_fit.Goals as goal

pub returns : goal.returns
returns c base subfields h =
    c.first_fit.ensures base subfields h
    ∙ ap first_fit (central-fits base c.args.operation.now subfields c.args.rows.now (digits_as c.named_registers.result) c.named_registers.ensures c.requires.rows)
