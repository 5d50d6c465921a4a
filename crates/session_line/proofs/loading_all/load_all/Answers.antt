use Rattle.std.proofs.Common.{List, Ok, Err, refl, ap, subst, ◌∙◌}
use Rattle.definitions.specs.Cards.{Card}
use Rattle.session_line.specs.declared.answers.Told.TheVariants as told
use Rattle.session_line.{specs.Answers.uncalled, specs.LoadingAll.AddsFile, proofs.AddSteps.{file-cut, file-refused}}
use Rattle.session_line.proofs.loading_all.load_all.Goals as goal

pub returns-in-Ok-cut_cards-clause-loads : goal.returns-in-Ok-cut_cards-clause-loads
returns-in-Ok-cut_cards-clause-loads g c = record {
  loaded = Ok c.in-Ok.cards.items;
  shelved = c.in-Ok.ensures.cards;
  added = subst (λ (cards : List Card). AddsFile g.C.Calls.relations cards c.args.desk.now c.add_all.new.desk c.add_all.result) c.as_slice.ensures.value
      (file-cut g.C.Calls.relations c.as_slice.result.now c.in-Ok-cut_cards.decks.items c.args.desk.now c.add_all.new.desk c.add_all.result c.in-Ok-cut_cards.ensures.ok c.add_all.ensures.adds);
}

pub returns-in-Ok-clause-loads : goal.returns-in-Ok-clause-loads
returns-in-Ok-clause-loads g c = record {
  loaded = Ok c.in-Ok.cards.items;
  shelved = c.in-Ok.ensures.cards;
  added = subst (λ (cards : List Card). AddsFile g.C.Calls.relations cards c.args.desk.now c.args.desk.now c.uncalled.result) c.as_slice.ensures.value
      (file-refused g.C.Calls.relations c.as_slice.result.now c.in-Err-cut_cards.refusal c.args.desk.now c.uncalled.result c.in-Err-cut_cards.ensures.err c.uncalled.ensures);
}

pub returns-clause-loads : goal.returns-clause-loads
returns-clause-loads g c = record {
  loaded = Err c.in-Err.fault;
  shelved = c.in-Err.ensures.fault;
  added = (refl, c.uncalled-in-Err.ensures ∙ ap (λ r. uncalled (told.Refused r)) c.load_reason.ensures);
}
