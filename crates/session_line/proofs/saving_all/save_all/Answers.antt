use Rattle.std.proofs.Common.{List, sym, subst}
use Rattle.desk_core.specs.declared.replies.Row.{Row}
use Rattle.session_line.specs.{declared.answers.Told.Told, Answers.told_of_call, SavingAll.{SavesAllTold, TellsSaves}}
use Rattle.session_line.proofs.saving_all.save_all.Goals as goal

pub returns-in-Status-clause-saves : goal.returns-in-Status-clause-saves
returns-in-Status-clause-saves g c =
    let P : List Row → Type 0 =
    λ (rows : List Row). TellsSaves g.C.Calls.relations.asks g.S.Shelf.relations c.in-Status.version rows c.ask.new.self c.tell_saves.new.desk c.args.shelf.now c.tell_saves.new.shelf
    c.tell_saves.result in
    let Q : Told → Type 0 =
    λ (what : Told). SavesAllTold g.C.Calls.relations.asks g.S.Shelf.relations what c.ask.new.self c.tell_saves.new.desk c.args.shelf.now c.tell_saves.new.shelf c.tell_saves.result in
    record {
      reply = c.ask.result;
      between = c.ask.new.self;
      made = c.ask.ensures;
      kept = subst Q {y = told_of_call c.ask.result} c.told_of_call.ensures.told (subst Q {y = c.told_of_call.result} (sym c.in-Status.is) (subst P c.as_slice.ensures c.tell_saves.ensures.tells));
    }
