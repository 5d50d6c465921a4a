-- A statement that was read is that of the definitions.
use Rattle.std.proofs.Common.{◌≡◌, ◌∙◌, ap, ap₂, sym, subst}
use Rattle.definitions.specs.{Statements.Statement, Fields.{Fields, fields_of}, Operations.{Operation, operation_of}, Operands.operand_of, Settled.{ReadStatement, read_of}, Settling.{View, Seen, settled_from, settled_read}, declared.deck_kind.DeckKind.DeckKind, declared.number_base.NumberBase.NumberBase}
use Rattle.operations.specs.Joins.OperationsAs.{operation_as}
use Rattle.statement_coder.specs.{Joins.Sizings.{read_as, IsSizing}, Joins.StatementsRead.IsRead, declared.sizing.Sizing.Sizing}
use Rattle.statement_coder.specs.declared.statement.Statement as statements

-- a statement read from fields and an operation
abbrev read_with : DeckKind → NumberBase → Statement → Fields → Operation → ReadStatement
read_with kind base given fields operation = record { statement = given; fields = fields; operation = operation; operand = operand_of kind base operation fields.operation fields.variable }

same-read : (kind : DeckKind) (base : NumberBase) (given : Statement) (fields : Fields) (operation : Operation) →
    fields ≡ fields_of given.cards → operation ≡ operation_of kind (fields_of given.cards).operation → read_with kind base given fields operation ≡ read_of kind base given
same-read kind base given fields operation f o = ap₂ (read_with kind base given) f o

-- what is settled from what was read is what the definitions settle
pub settled-sizing : (view : View) (seen : Seen) (kind : DeckKind) (given : Statement) (code : statements.Statement) (sizing : Sizing) → IsRead kind given.cards code →
    IsSizing code.kind view (settled_read code.kind seen (read_as code given (operand_of code.kind seen.number_base (operation_as code.operation) code.name.now code.variable.now))) sizing →
    IsSizing kind view (settled_from kind seen given) sizing
settled-sizing view seen kind given code sizing read is =
    let fields : Fields = record { location = code.location.now; operation = code.name.now; variable = code.variable.now } in
    let same : fields ≡ fields_of given.cards = λ i. record { location = read.location i; operation = read.name i; variable = read.variable i } in
    let operation : operation_as code.operation ≡ operation_of code.kind (fields_of given.cards).operation =
    read.operation ∙ sym (ap (λ k. operation_of k (fields_of given.cards).operation) read.kind) in
    subst (λ k. IsSizing k view (settled_from k seen given) sizing) read.kind
    (subst (λ r. IsSizing code.kind view (settled_read code.kind seen r) sizing) (same-read code.kind seen.number_base given fields (operation_as code.operation) same operation) is)
