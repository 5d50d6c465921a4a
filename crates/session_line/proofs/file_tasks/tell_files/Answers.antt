use Rattle.std.proofs.Common.{Ok, Err, ap, ◌∙◌}
use Rattle.session_line.specs.Answers.{called}
use Rattle.session_line.specs.declared.answers.Told.TheVariants as told
use Rattle.session_line.proofs.file_tasks.tell_files.Goals as goal

pub returns-in-Ok-clause-tells : goal.returns-in-Ok-clause-tells
returns-in-Ok-clause-tells g c = record {
  listed = Ok c.in-Ok.rows.items;
  shelved = c.in-Ok.ensures.rows;
  answered = c.called.ensures ∙ ap (λ rows. called (told.Files c.args.version rows)) c.new.ensures;
}

pub returns-in-Err-clause-tells : goal.returns-in-Err-clause-tells
returns-in-Err-clause-tells g c = record {
  listed = Err c.in-Err.fault;
  shelved = c.in-Err.ensures.fault;
  answered = c.called-in-Err.ensures ∙ ap (λ r. called (told.Refused r)) c.load_reason.ensures;
}
