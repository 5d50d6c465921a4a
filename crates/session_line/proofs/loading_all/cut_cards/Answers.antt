use Rattle.std.proofs.Common.{◌≡◌, ◌⊎◌, Err, sym, subst}
use Rattle.session_commands.specs.declared.refusals.Refusal.{Refusal, TheVariants.OutOfMemory}
use Rattle.session_line.{specs.DeckCuts.decks_in, proofs.AddSteps.{decks-cut, reason-cut}}
use Rattle.session_line.proofs.loading_all.cut_cards.Goals as goal

pub returns-in-Ok-clause-ok : goal.returns-in-Ok-clause-ok
returns-in-Ok-clause-ok c = decks-cut c.args.cards.now c.in-Ok.decks.items c.in-Ok.ensures.ok

pub returns-in-Err-clause-err : goal.returns-in-Err-clause-err
returns-in-Err-clause-err c =
    subst (λ (refusal : Refusal). (decks_in c.args.cards.now ≡ Err refusal) ⊎ (refusal ≡ OutOfMemory)) (sym c.cut_reason.ensures) (reason-cut c.args.cards.now c.in-Err.fault c.in-Err.ensures.err)
