-- Operations, as the definitions have them (COMPASS 60492600, pseudo-instructions).
use Rattle.definitions.specs.Operations as op
use Rattle.operations.specs.declared.operation.Operation as code
use Rattle.operations.specs.declared.operation.Operation.TheVariants as operation

-- an operation, as the definitions name it
abbrev pub operation_as : code.Operation → op.Operation
operation_as operation.EmptyField = op.EmptyField
operation_as operation.Listed = op.Listed
operation_as operation.End = op.End
operation_as (operation.Kind kind) = op.Kind kind
operation_as operation.Base = op.Base
operation_as operation.Use = op.Use
operation_as operation.Org = op.Org
operation_as operation.Loc = op.Loc
operation_as operation.Equ = op.Equ
operation_as operation.Bss = op.Bss
operation_as operation.Bssz = op.Bssz
operation_as operation.Data = op.Data
operation_as operation.Con = op.Con
operation_as operation.Vfd = op.Vfd
operation_as operation.Dis = op.Dis
operation_as operation.Entry = op.Entry
operation_as operation.Ext = op.Ext
operation_as operation.Instruction = op.Instruction
operation_as operation.Unknown = op.Unknown
