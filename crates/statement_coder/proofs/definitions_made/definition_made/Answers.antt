-- No operation but EXT defines names, and EXT defines no symbol.
use Rattle.std.proofs.Common.{ap}
use Rattle.operations.specs.Joins.OperationsAs.{operation_as}
use Rattle.statement_coder.specs.Joins.Definitions.{is_ext}
use Rattle.statement_coder.proofs.definitions_made.definition_made.Goals as goal

pub returns-in-Equ-clause-externals : goal.returns-in-Equ-clause-externals
returns-in-Equ-clause-externals c = c.first_as_number.ensures.externals (operation_as c.args.operation) (ap (λ o. is_ext (operation_as o)) c.in-Equ.is)

pub returns-in-Bss-clause-externals : goal.returns-in-Bss-clause-externals
returns-in-Bss-clause-externals c = c.first_at_counter.ensures.externals (operation_as c.args.operation) (ap (λ o. is_ext (operation_as o)) c.in-Bss.is)

pub returns-in-Bssz-clause-externals : goal.returns-in-Bssz-clause-externals
returns-in-Bssz-clause-externals c = c.first_at_counter-in-Bssz.ensures.externals (operation_as c.args.operation) (ap (λ o. is_ext (operation_as o)) c.in-Bssz.is)

pub returns-in-Data-clause-externals : goal.returns-in-Data-clause-externals
returns-in-Data-clause-externals c = c.first_at_counter-in-Data.ensures.externals (operation_as c.args.operation) (ap (λ o. is_ext (operation_as o)) c.in-Data.is)

pub returns-in-Con-clause-externals : goal.returns-in-Con-clause-externals
returns-in-Con-clause-externals c = c.first_at_counter-in-Con.ensures.externals (operation_as c.args.operation) (ap (λ o. is_ext (operation_as o)) c.in-Con.is)

pub returns-in-Vfd-clause-externals : goal.returns-in-Vfd-clause-externals
returns-in-Vfd-clause-externals c = c.first_at_counter-in-Vfd.ensures.externals (operation_as c.args.operation) (ap (λ o. is_ext (operation_as o)) c.in-Vfd.is)

pub returns-in-Dis-clause-externals : goal.returns-in-Dis-clause-externals
returns-in-Dis-clause-externals c = c.first_at_counter-in-Dis.ensures.externals (operation_as c.args.operation) (ap (λ o. is_ext (operation_as o)) c.in-Dis.is)

pub returns-in-Instruction-clause-externals : goal.returns-in-Instruction-clause-externals
returns-in-Instruction-clause-externals c = c.first_at_counter-in-Instruction.ensures.externals (operation_as c.args.operation) (ap (λ o. is_ext (operation_as o)) c.in-Instruction.is)

pub returns-in-Unknown-clause-externals : goal.returns-in-Unknown-clause-externals
returns-in-Unknown-clause-externals c = c.first_at_counter-in-Unknown.ensures.externals (operation_as c.args.operation) (ap (λ o. is_ext (operation_as o)) c.in-Unknown.is)
