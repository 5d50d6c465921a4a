use Rattle.std.{proofs.Common.{◌≡◌, ◌∙◌, refl, sym, ap, true≢false}, specs.Prelude.{IsTrue, Option, Some, None, is_some}}
use Rattle.definitions.specs.{Matching.Instruction, Operands.central_operand, Pieces.{pieces_of, subfields_of}}
use Rattle.expr_forms.{specs.Joins.Shapes.instruction_as, specs.declared.shapes.Shape.Shape, proofs.OperandLaws.expression-lone}
use Rattle.statement_coder.specs.Joins.Readings.{IsInstruction}
use Rattle.statement_coder.proofs.readings.read_central.Goals as goal

-- the shape of an instruction is read as it
is-read : (shape : Shape) (found : Option Instruction) → found ≡ instruction_as shape → IsTrue (is_some (instruction_as shape)) → IsInstruction shape (central_operand found)
is-read shape None e some = absurd (true≢false (sym some ∙ ap is_some (sym e)))
is-read shape (Some instruction) e some = sym e

pub returns-in-Ok-find-clause-reading : goal.returns-in-Ok-find-clause-reading
returns-in-Ok-find-clause-reading c =
    is-read c.in-Ok-find.shape _ (c.in-Ok-find.ensures.found c.args.base (subfields_of (pieces_of c.args.text.now))
    (rw (expression-lone c.args.base (pieces_of c.args.text.now) c.in-Ok.expression c.in-Ok.ensures) (refl, c.in-Ok.ensures, c.requires))) c.in-Ok-find.ensures.central

pub returns-in-Err-find-clause-reading : goal.returns-in-Err-find-clause-reading
returns-in-Err-find-clause-reading c =
    ap central_operand (c.in-Err-find.ensures.refused c.args.base (subfields_of (pieces_of c.args.text.now))
    (rw (expression-lone c.args.base (pieces_of c.args.text.now) c.in-Ok.expression c.in-Ok.ensures) (refl, c.in-Ok.ensures, c.requires)))
