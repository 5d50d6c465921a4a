-- What a statement is once the state before it is known, in the words of the definitions.
use Rattle.std.specs.Prelude.{◌≡◌, Bool, None, unwrap_or}
use Rattle.definitions.specs.{Counters.counters_at, Forms.Form, Statements.Statement, Operands.Operand, Settled.{ReadStatement, Settled}, Letters.in_order, Settling.{View, is_refused, is_run}, Laws.States.{BlockState, names_of_blocks}, declared.deck_kind.DeckKind.DeckKind}
use Rattle.operations.specs.Joins.OperationsAs.{operation_as}
use Rattle.use_blocks.specs.Joins.EffectsAs.{change_as, setting_as}
use Rattle.statement_coder.specs.{Joins.Definitions.{defined_by, made_as, IsOfExt}, declared.definitions_made.Defines.Defines, declared.sizing.Sizing.Sizing}
use Rattle.statement_coder.specs.declared.statement.Statement as statements

-- a statement that was read, with its operand
abbrev pub read_as : statements.Statement → Statement → Operand → ReadStatement
read_as code statement operand = record {
  statement = statement;
  fields = record { location = code.location.now; operation = code.name.now; variable = code.variable.now };
  operation = operation_as code.operation;
  operand = operand;
}

-- whether a statement with this operand is refused behind a state
abbrev pub refused_as : statements.Statement → Operand → BlockState → Bool
refused_as code operand state =
    is_refused code.kind (operation_as code.operation) operand (record { location = code.location.now; neutral = state.neutral; blocks = names_of_blocks state.blocks })

-- the two counters of a sizing in a deck of this kind
abbrev pub origin_in : DeckKind → Sizing → Form
origin_in kind sizing = (counters_at kind sizing.usual.block sizing.usual.place None).origin

abbrev pub location_in : DeckKind → Sizing → Form
location_in kind sizing = unwrap_or sizing.location (origin_in kind sizing)

-- what its statement defines in such a deck
abbrev pub defines_in : DeckKind → Sizing → Defines
defines_in kind sizing = made_as (location_in kind sizing) sizing.value sizing.usual.definition

-- all that contracts see of a sizing is what is settled in a deck of this kind
pub record IsSizing (kind : DeckKind) (view : View) (settled : Settled) (sizing : Sizing) : Type 0 where
  pub block : sizing.usual.block ≡ settled.block
  pub change : change_as sizing.change ≡ settled.change
  pub is_placed : sizing.usual.is_placed ≡ settled.is_placed
  pub place : sizing.usual.place ≡ settled.place
  pub end : sizing.usual.end ≡ settled.end
  pub asks : sizing.usual.asks ≡ settled.asks
  pub begins_run : is_run (setting_as sizing.setting) ≡ settled.begins_run
  pub setting : setting_as sizing.setting ≡ settled.setting
  pub location : location_in kind sizing ≡ settled.location
  pub origin : origin_in kind sizing ≡ settled.origin
  -- the location counter is told by itself only where it is another one
  pub counters : settled.location ≡ settled.origin → sizing.location ≡ None
  pub definitions : defined_by view settled.read.fields.location settled.read.operand (defines_in kind sizing) ≡ settled.definitions
  pub externals : IsOfExt settled.read.operation (defines_in kind sizing)
  pub letters : sizing.usual.letters ≡ in_order settled.letters
