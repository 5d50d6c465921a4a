use Rattle.std.proofs.Common.{Ok, Err, refl, sym, ap, subst, ◌∙◌}
use Rattle.session_line.specs.declared.answers.Told.TheVariants as told
use Rattle.session_line.specs.{declared.answers.Answer.Answer, Answers.uncalled, Asking.NotesTold}
use Rattle.session_line.proofs.reloading.reload_deck.Goals as goal

pub returns-in-Ok-clause-reloads : goal.returns-in-Ok-clause-reloads
returns-in-Ok-clause-reloads g c = record {
  loaded = Ok c.in-Ok.cards.items;
  between = c.load.new.self;
  shelved = c.in-Ok.ensures.cards;
  put = c.put_over-answer.ensures.puts;
  noted = c.note_told.ensures;
}

pub returns-in-Err-clause-reloads : goal.returns-in-Err-clause-reloads
returns-in-Err-clause-reloads g c =
    let told = c.uncalled.ensures ∙ ap (λ r. uncalled (told.Refused r)) c.load_reason.ensures in
    record {
      loaded = Err c.in-Err.fault;
      between = c.load.new.self;
      shelved = c.in-Err.ensures.fault;
      put = (refl, told);
      noted = subst (λ (answer : Answer). NotesTold g.S.Shelf.relations c.args.name.now answer.told c.load.new.self c.load.new.self) (sym told) refl;
    }
