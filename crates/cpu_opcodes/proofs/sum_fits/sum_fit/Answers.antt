use Rattle.std.proofs.Common.{sym, ◌∙◌}
use Rattle.cpu_opcodes.proofs.{RowLaws.no_sum-fits, SumLaws.sums-operand}
use Rattle.cpu_opcodes.proofs.sum_fits.sum_fit.Goals as goal

pub returns-in-One-clause-instruction : goal.returns-in-One-clause-instruction
returns-in-One-clause-instruction c base subfields h =
    c.one_fit.ensures.instruction ∙ sums-operand base c.args.operation.now subfields c.args.operand.now _ c.in-One.is h

pub returns-in-Two-clause-instruction : goal.returns-in-Two-clause-instruction
returns-in-Two-clause-instruction c base subfields h =
    sym (no_sum-fits c.args.operation.now) ∙ sums-operand base c.args.operation.now subfields c.args.operand.now _ c.in-Two.is h

pub returns-in-Three-clause-instruction : goal.returns-in-Three-clause-instruction
returns-in-Three-clause-instruction c base subfields h =
    sym (no_sum-fits c.args.operation.now) ∙ sums-operand base c.args.operation.now subfields c.args.operand.now _ c.in-Three.is h
