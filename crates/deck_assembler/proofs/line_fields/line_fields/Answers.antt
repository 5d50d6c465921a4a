use Rattle.std.proofs.{Common.{refl, subst}, lemmas.Result.{IfOk-weaker, on_ok_weaker}}
use Rattle.statement_coder.specs.{Joins.CodedItems.AreTold, declared.coded.CodedItems.CodedItems}
use Rattle.deck_assembler.proofs.line_fields.line_fields.Goals as goal

pub returns-in-Instruction-clause-kept : goal.returns-in-Instruction-clause-kept
returns-in-Instruction-clause-kept c =
    IfOk-weaker c.instruction_fields.result _ _ (λ kept h operand sizing before fields told.
    let is = subst (λ (t : CodedItems). AreTold c.args.kind operand sizing t before c.args.lists.now.items.items fields) c.in-Instruction.is told in
    h c.args.kind operand sizing _ fields is.0 is.1.1 refl) c.instruction_fields.ensures.kept

pub returns-in-Listed-clause-before : goal.returns-in-Listed-clause-before
returns-in-Listed-clause-before c =
    on_ok_weaker c.list_fields.result (λ keeps operand sizing before fields told.
    keeps operand sizing before fields (subst (λ (t : CodedItems). AreTold c.args.kind operand sizing t before c.args.lists.now.items.items fields) c.in-Listed.is told)) c.list_fields.ensures.before
