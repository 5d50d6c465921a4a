-- What a statement is once the statements before it are known: its block, its place, its counters and what it defines.
-- Lists of settled statements are read newest first.
use Rattle.std.specs.{Prelude.{ℕ, List, [], ◌∷◌, Option, Some, None, Bool, if◌then◌else◌}, Option.option_or}
use Rattle.definitions.specs.{Characters.same_text, Statements.Statement, Fields.{Fields, fields_of}, Forms.Form, Operations.{Operation, operation_of}, Operands.{Operand, operand_of}, declared.deck_kind.DeckKind.DeckKind, declared.number_base.NumberBase.NumberBase, declared.letter.Letter.Letter}

-- what is read of a statement before any name is known
pub record ReadStatement : Type 0 where
  pub statement : Statement
  pub fields : Fields
  pub operation : Operation
  pub operand : Operand

-- a statement with its fields, its operation and its operand
abbrev pub read_of : DeckKind → NumberBase → Statement → ReadStatement
read_of kind base statement =
    let fields = fields_of statement.cards in
    let operation = operation_of kind fields.operation in
    record { statement = statement; fields = fields; operation = operation; operand = operand_of kind base operation fields.operation fields.variable }

-- what a statement does to the stack of blocks
pub data BlockChange : Type 0 where
  NoChange : BlockChange
  Opens : List ℕ → BlockChange
  Closes : BlockChange

-- a LOC in force: the value that it set, and its place
pub record Counting : Type 0 where
  pub form : Form
  pub place : ℕ

-- what a statement does to the location counter of its block: LOC sets it, ORG ends a setting
pub data LocationSetting : Type 0 where
  Unchanged : LocationSetting
  Counts : Counting → LocationSetting
  Ended : LocationSetting

-- a symbol with its value
pub record Definition : Type 0 where
  pub name : List ℕ
  pub form : Form

-- a statement with all that it and those before it decide
pub record Settled : Type 0 where
  pub read : ReadStatement
  -- the block in use, and what becomes of the stack
  pub block : List ℕ
  pub change : BlockChange
  -- whether it has a place of its own; place and end in units of its block
  pub is_placed : Bool
  pub place : ℕ
  pub end : ℕ
  -- whether the next instruction of the block must be upper
  pub asks : Bool
  -- whether an ORG begins a new run here
  pub begins_run : Bool
  pub setting : LocationSetting
  pub location : Form
  pub origin : Form
  -- the symbols whose first definition this is
  pub definitions : List Definition
  -- the letters that are known without later statements
  pub letters : List Letter

-- the value of a symbol among definitions
abbrev pub defined_in : List ℕ → List Definition → Option Form
defined_in name [] = None
defined_in name (definition ∷ definitions) = if same_text name definition.name then Some definition.form else defined_in name definitions

-- the value of a symbol's first definition, if one of these statements has it
abbrev pub defined : List ℕ → List Settled → Option Form
defined name [] = None
defined name (settled ∷ earlier) = option_or (defined_in name settled.definitions) (defined name earlier)
