use Rattle.std.proofs.Common.{List, sym, subst}
use Rattle.desk_core.specs.declared.replies.Row.{Row}
use Rattle.session_line.specs.{declared.answers.Told.Told, Answers.told_of_call, LoadingAll.{AddsTold, TellsAdds}}
use Rattle.session_line.proofs.loading_all.add_all.Goals as goal

pub returns-in-Status-clause-adds : goal.returns-in-Status-clause-adds
returns-in-Status-clause-adds g c =
    let P : List Row → Type 0 = λ (rows : List Row). TellsAdds g.C.Calls.relations c.in-Status.version rows c.args.decks.items c.ask.new.self c.tell_adds.new.desk c.tell_adds.result in
    let Q : Told → Type 0 = λ (what : Told). AddsTold g.C.Calls.relations c.args.decks.items what c.ask.new.self c.tell_adds.new.desk c.tell_adds.result in
    record {
      reply = c.ask.result;
      between = c.ask.new.self;
      made = c.ask.ensures;
      kept = subst Q {y = told_of_call c.ask.result} c.told_of_call.ensures.told (subst Q {y = c.told_of_call.result} (sym c.in-Status.is) (subst P c.as_slice.ensures c.tell_adds.ensures.tells));
    }
