use Rattle.std.proofs.Common.{◌∙◌}
use Rattle.definitions.specs.CentralTable as table
use Rattle.definitions.specs.Matching.{is_operation}
use Rattle.cpu_opcodes.{specs.Joins.CentralTables.{operand_row, padded_row}, proofs.CentralLaws.any_row}
use Rattle.cpu_opcodes.proofs.tables.is_read_by_subfields.Goals as goal

pub returns : goal.returns
returns c = c.has_rows.ensures ∙ any_row operand_row padded_row (λ (row : table.Row). is_operation row.operation c.args.operation.now) table.central_rows c.central_rows.result.now c.central_rows.ensures.rows
