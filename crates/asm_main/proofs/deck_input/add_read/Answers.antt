use Rattle.asm_main.{specs.Inputs.cut_fault, proofs.FaultLaws.IsFaultOf-cut}
use Rattle.deck_cuts.proofs.CutLaws.{IfErr-passed}
use Rattle.asm_main.proofs.deck_input.add_read.Goals as goal

pub returns-in_err-add_card-clause-err : goal.returns-in_err-add_card-clause-err
returns-in_err-add_card-clause-err c =
    IfErr-passed c.from_residual.result (cut_fault c.in_err-add_card.field-0.0) _ c.from_residual.ensures.1 (IsFaultOf-cut _ c.in_err-add_card.field-0.0 c.in_err-add_card.ensures.err)
