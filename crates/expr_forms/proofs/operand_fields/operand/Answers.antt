use Rattle.std.proofs.Common.{refl}
use Rattle.definitions.specs.Pieces.{pieces_of}
use Rattle.expr_forms.proofs.OperandLaws.{expression-lone}
use Rattle.expr_forms.proofs.operand_fields.operand.Goals as goal

pub returns-in-Ok : goal.returns-in-Ok
returns-in-Ok c = rw (expression-lone c.args.base (pieces_of c.args.text.now) c.in-Ok.expression c.in-Ok.ensures) (refl, c.in-Ok.ensures, c.requires)
