use Rattle.std.proofs.Common.{◌∙◌}
use Rattle.definitions.specs.CentralTable as table
use Rattle.definitions.specs.Matching.{is_operation}
use Rattle.cpu_opcodes.{specs.Joins.CentralTables.{sum_row, padded_sum_row}, proofs.CentralLaws.any_row}
use Rattle.cpu_opcodes.proofs.tables.is_sum.Goals as goal

pub returns : goal.returns
returns c = c.has_rows.ensures ∙ any_row sum_row padded_sum_row (λ (row : table.SumRow). is_operation row.operation c.args.operation.now) table.sum_rows c.sum_rows.result.now c.sum_rows.ensures.rows
