use Rattle.std.{proofs.Common.{◌≡◌, sym, List, ℕ}, specs.Prelude.{Option, Some, None, is_some, option_and_then, IfSome, false}, specs.List.list_any}
use Rattle.definitions.specs.{Pieces.{Piece, pieces_of, subfields_of}, CentralTable.{Row, ignoring_rows}, Matching.{central_of, is_operation}, declared.number_base.NumberBase.NumberBase}
use Rattle.expr_forms.specs.{Joins.Operands.is_operand, Joins.Shapes.instruction_as, declared.shapes.Shape.Shape}
use Rattle.cpu_opcodes.proofs.UnreadLaws.{field_unread-none}
use Rattle.statement_coder.proofs.readings.shape_of_subfields.Goals as goal

-- what is no operand is what PS and NO make, and else nothing
unread : (base : NumberBase) (name text : List ℕ) (shape : Option Shape) →
    is_some shape ≡ list_any (λ (row : Row). is_operation row.operation name) ignoring_rows →
    IfSome shape (λ (found : Shape). (of : NumberBase) (subfields : List (List Piece)) → central_of of name subfields ≡ instruction_as found) →
    is_operand base (subfields_of (pieces_of text)) ≡ false → option_and_then instruction_as shape ≡ central_of base name (subfields_of (pieces_of text))
unread base name text None rows made is = sym (field_unread-none base name text (sym rows) is)
unread base name text (Some found) rows made is = sym (made base (subfields_of (pieces_of text)))

pub returns-in-Err-clause-instruction : goal.returns-in-Err-clause-instruction
returns-in-Err-clause-instruction c = unread c.args.base c.args.name.now c.args.text.now c.ignoring.result c.ignoring.ensures.rows c.ignoring.ensures.instruction c.in-Err.ensures.1
