-- What a trial finds of a statement.
use Rattle.std.{proofs.Common.{◌≡◌, ℕ, List, [], ◌∷◌, ◌++◌, subst}, specs.List.AllByRecursion}
use Rattle.definitions.specs.{Operations.Operation, Settled.ReadStatement, Settling.View, Laws.Agreement.{Agree, own_symbols, operand_symbols}}
use Rattle.statement_coder.specs.declared.definitions_made.Defines as code
use Rattle.deck_assembler.specs.Joins.{Agreements.{AreExternalsAlike, IsAlike}, SizedDecks.own_of}

-- what is stated of two lists
pub both-all : {X : Type 0} (P : X → Type 0) (a b : List X) → AllByRecursion P a → AllByRecursion P b → AllByRecursion P (a ++ b)
both-all P [] b h k = k
both-all P (x ∷ a) b h k = (h.0, both-all P a b h.1 k)

-- what a statement defines by its location field, and what its operand defines or reads
pub both-alike : (v w : View) (read : ReadStatement) (what : code.Defines) (operation : Operation) (label : List ℕ) → operation ≡ read.operation → own_symbols operation label ≡ own_of read →
    Agree v w (own_symbols operation label) → Agree v w (operand_symbols read.operand operation) → AreExternalsAlike v w read.operand what → IsAlike v w read what
both-alike v w read what operation label o e own early externals = record {
  early = both-all (λ name. v name ≡ w name) (own_symbols read.operation read.fields.location) (operand_symbols read.operand read.operation)
      (subst (Agree v w) e own) (subst (λ operation. Agree v w (operand_symbols read.operand operation)) o early);
  externals = externals;
}
