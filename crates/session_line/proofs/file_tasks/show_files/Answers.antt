use Rattle.std.proofs.Common.{sym, subst}
use Rattle.session_line.specs.{declared.answers.Told.Told, Answers.told_of_wait, FileTasks.FilesTold}
use Rattle.session_line.proofs.file_tasks.show_files.Goals as goal

pub returns-in-Standing-clause-shows : goal.returns-in-Standing-clause-shows
returns-in-Standing-clause-shows g c =
    let Q : Told → Type 0 = λ (what : Told). FilesTold g.S.Shelf.relations what c.args.shelf.now c.tell_files.new.shelf c.tell_files.result in
    record {
      reply = c.ask.result;
      made = c.ask.ensures;
      kept = subst Q {y = told_of_wait c.ask.result} c.told_of_wait.ensures.told (subst Q {y = c.told_of_wait.result} (sym c.in-Standing.is) c.tell_files.ensures.tells);
    }
