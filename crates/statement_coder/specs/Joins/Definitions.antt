-- What a statement defines, in the words of the definitions.
use Rattle.std.specs.Prelude.{ℕ, ◌≡◌, ⊤, List, [], ◌∷◌, Bool, true, false}
use Rattle.definitions.specs.{Forms.Form, Operands.{Operand, NamesOperand}, Operations.Operation, Settling.{View, externals}}
use Rattle.definitions.specs.Operations as op
use Rattle.definitions.specs.Settled as settled
use Rattle.statement_coder.specs.declared.definitions_made.Definition.{Definition}
use Rattle.statement_coder.specs.declared.definitions_made.Definition.TheVariants as definition
use Rattle.statement_coder.specs.declared.definitions_made.Defines as code
use Rattle.statement_coder.specs.declared.definitions_made.Defines.TheVariants as defines

-- whether an operand is names
abbrev pub has_names : Operand → Bool
has_names (NamesOperand names) = true
has_names _ = false

-- the externals of names, where there are names
abbrev pub externals_of : View → Operand → List settled.Definition
externals_of view (NamesOperand names) = externals view names []
externals_of view _ = []

-- a definition with the location counter and a value
abbrev pub made_as : Form → Form → Definition → code.Defines
made_as counter value definition.Nothing = defines.Nothing
made_as counter value definition.Counter = defines.Symbol counter
made_as counter value definition.Number = defines.Symbol value
made_as counter value definition.Externals = defines.Externals

-- the symbols that are defined, for a location field and an operand
abbrev pub defined_by : View → List ℕ → Operand → code.Defines → List settled.Definition
defined_by view location operand defines.Nothing = []
defined_by view location operand (defines.Symbol form) = record { name = location; form = form } ∷ []
defined_by view location operand defines.Externals = externals_of view operand

-- whether an operation is EXT
abbrev pub is_ext : Operation → Bool
is_ext op.Ext = true
is_ext operation = false

-- names are defined by an EXT alone, which defines no symbol of its location field
abbrev pub IsOfExt : Operation → code.Defines → Type 0
IsOfExt operation defines.Nothing = ⊤
IsOfExt operation (defines.Symbol form) = is_ext operation ≡ false
IsOfExt operation defines.Externals = operation ≡ op.Ext
