use Rattle.std.proofs.Common.{ap, ◌∙◌}
use Rattle.session_line.specs.{Answers.called, SavingAll.told_all}
use Rattle.session_line.specs.declared.answers.Told.TheVariants as told
use Rattle.session_line.proofs.saving_all.tell_saves.Goals as goal

pub returns-in-Ok-clause-tells : goal.returns-in-Ok-clause-tells
returns-in-Ok-clause-tells g c = told_all c.in-Ok.saved.items c.in-Ok.ensures.saved (c.called.ensures ∙ ap (λ saved. called (told.Decks c.args.version saved)) c.new.ensures)
