use Rattle.asm_main.proofs.AnswerLaws.{told-where}
use Rattle.deck_cuts.proofs.CutLaws.{IfErr-passed}
use Rattle.asm_main.proofs.running.asm_build_with.Goals as goal

pub returns-in_err-decks-clause-told : goal.returns-in_err-decks-clause-told
returns-in_err-decks-clause-told g c =
    IfErr-passed c.from_residual.result c.in_err-decks.field-0.0 _ c.from_residual.ensures.1
    (told-where _ c.in_err-decks.field-0.0 c.in_err-decks.ensures.small c.in_err-decks.ensures.fault)
