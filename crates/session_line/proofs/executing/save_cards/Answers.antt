use Rattle.std.proofs.Common.{ap, ◌∙◌}
use Rattle.session_line.specs.{Answers.called, SavingDecks.refused}
use Rattle.session_line.specs.declared.answers.Told.TheVariants as told
use Rattle.session_line.proofs.executing.save_cards.Goals as goal

pub returns-in-Err-clause-saves : goal.returns-in-Err-clause-saves
returns-in-Err-clause-saves g c = refused c.in-Err.fault c.in-Err.ensures.fault (c.called-in-Err.ensures ∙ ap (λ r. called (told.Refused r)) c.save_reason.ensures)
