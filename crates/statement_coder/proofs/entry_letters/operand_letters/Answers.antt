use Rattle.std.{proofs.Common.{◌≡◌, ◌∙◌, ap, sym, subst}, specs.Prelude.flat_map}
use Rattle.definitions.specs.{Letters.{in_order, name_fault, entry_letters}, Operands.NamesOperand}
use Rattle.definitions.specs.Operations as op
use Rattle.definitions.specs.declared.deck_kind.DeckKind.TheVariants as kinds
use Rattle.statement_coder.specs.Joins.Readings.{IsReading}
use Rattle.statement_coder.proofs.entry_letters.operand_letters.Goals as goal

pub returns-in-Names-clause-relocatable : goal.returns-in-Names-clause-relocatable
returns-in-Names-clause-relocatable g c =
    λ settled operand seen reading.
    let is : operand ≡ NamesOperand c.in-Names.names = subst (λ r. IsReading r operand) c.in-Names.is reading in
    c.names_letters.ensures settled seen
    ∙ ap (λ names. in_order (flat_map (name_fault settled) names)) c.copied.ensures
    ∙ ap (λ o. in_order (entry_letters kinds.Rel settled op.Entry o)) (sym is)

pub returns-in-Names-clause-absolute : goal.returns-in-Names-clause-absolute
returns-in-Names-clause-absolute g c =
    λ settled operand seen reading.
    let is : operand ≡ NamesOperand c.in-Names.names = subst (λ r. IsReading r operand) c.in-Names.is reading in
    c.names_letters.ensures settled seen
    ∙ ap (λ names. in_order (flat_map (name_fault settled) names)) c.copied.ensures
    ∙ ap (λ o. in_order (entry_letters kinds.Abs settled op.Entry o)) (sym is)
