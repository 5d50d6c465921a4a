-- The names that an operand has.
use Rattle.std.specs.Prelude.{ℕ, List, Option, Some, None}
use Rattle.definitions.specs.Operands.{Operand, NamesOperand}

-- the names that an operand has, if it has names
abbrev pub names_in : Operand → Option (List (Option (List ℕ)))
names_in (NamesOperand names) = Some names
names_in _ = None
