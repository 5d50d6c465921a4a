use Rattle.std.proofs.Common.{ap, sym, ◌∙◌, arith}
use Rattle.cpu_opcodes.{specs.Joins.CentralTables.operand_rows_of, proofs.CentralLaws.{no_rows, pair-of, triple-of}}
use Rattle.cpu_opcodes.proofs.tables.central_rows.Goals as goal

pub returns-then-not-is_shaped-clause-rows : goal.returns-then-not-is_shaped-clause-rows
returns-then-not-is_shaped-clause-rows c = no_rows c.args.operation.now (sym c.is_shaped.ensures ∙ c.if-not-is_shaped.true)

pub returns-in-len2-clause-rows : goal.returns-in-len2-clause-rows
returns-in-len2-clause-rows c = c.pair_rows.ensures.rows ∙ ap operand_rows_of (pair-of c.args.operation.now (omega arith))

pub returns-in-len3-clause-rows : goal.returns-in-len3-clause-rows
returns-in-len3-clause-rows c = c.set_rows.ensures.rows ∙ ap operand_rows_of (triple-of c.args.operation.now (omega arith))
