use Rattle.std.proofs.Common.{ap, ◌∙◌}
use Rattle.session_line.specs.{Answers.called, FileStatus.told_all}
use Rattle.session_line.specs.declared.answers.Told.TheVariants as told
use Rattle.session_line.proofs.file_status.tell_marks.Goals as goal

pub returns-in-Ok-clause-tells : goal.returns-in-Ok-clause-tells
returns-in-Ok-clause-tells g c =
    told_all c.in-Ok.marks.items c.in-Ok.ensures.marks (c.called.ensures ∙ ap (λ marks. called (told.FileStatus c.args.version c.args.published marks)) c.new.ensures)
