use Rattle.std.proofs.Common.{List, sym, subst}
use Rattle.desk_core.specs.declared.replies.Row.{Row}
use Rattle.session_line.specs.{declared.answers.Told.Told, Answers.told_of_call, FileStatus.{MarksTold, TellsMarks}}
use Rattle.session_line.proofs.file_status.show_file_status.Goals as goal

pub returns-in-Status-clause-shows : goal.returns-in-Status-clause-shows
returns-in-Status-clause-shows g c =
    let P : List Row → Type 0 = λ (rows : List Row). TellsMarks g.S.Shelf.relations c.in-Status.version c.in-Status.published rows c.args.shelf.now c.tell_marks.new.shelf c.tell_marks.result in
    let Q : Told → Type 0 = λ (what : Told). MarksTold g.S.Shelf.relations what c.args.shelf.now c.tell_marks.new.shelf c.tell_marks.result in
    record {
      reply = c.ask.result;
      made = c.ask.ensures;
      kept = subst Q {y = told_of_call c.ask.result} c.told_of_call.ensures.told (subst Q {y = c.told_of_call.result} (sym c.in-Status.is) (subst P c.as_slice.ensures c.tell_marks.ensures.tells));
    }
