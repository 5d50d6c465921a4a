-- What is read of a statement's cards, in the words of the definitions.
use Rattle.std.specs.Prelude.{◌≡◌, List}
use Rattle.definitions.specs.{Cards.Card, Fields.fields_of, Operations.operation_of, Statements.is_stray, declared.deck_kind.DeckKind.DeckKind}
use Rattle.operations.specs.Joins.OperationsAs.{operation_as}
use Rattle.statement_coder.specs.declared.statement.Statement.{Statement}

-- the fields and the operation of these cards, in a deck of this kind
pub record IsRead (deck_kind : DeckKind) (cards : List Card) (statement : Statement) : Type 0 where
  pub kind : statement.kind ≡ deck_kind
  pub location : statement.location.now ≡ (fields_of cards).location
  pub name : statement.name.now ≡ (fields_of cards).operation
  pub variable : statement.variable.now ≡ (fields_of cards).variable
  pub operation : operation_as statement.operation ≡ operation_of deck_kind (fields_of cards).operation
  pub stray : statement.is_stray ≡ is_stray cards
