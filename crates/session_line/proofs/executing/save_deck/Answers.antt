use Rattle.std.proofs.Common.{ℕ, List, sym, subst}
use Rattle.definitions.specs.Cards.{Card}
use Rattle.desk_core.specs.declared.calls.Question.TheVariants.{Cards}
use Rattle.session_line.specs.{declared.answers.Told.Told, Answers.told_of_cards, SavingDecks.{SavesCards, SavesTold}}
use Rattle.session_commands.specs.declared.views.CardsView.TheVariants.{All}
use Rattle.session_line.proofs.executing.save_deck.Goals as goal

pub returns-in-Cards-clause-saves : goal.returns-in-Cards-clause-saves
returns-in-Cards-clause-saves g c =
    let M : List ℕ → Type 0 = λ (name : List ℕ). g.C.Calls.relations.asks c.args.desk.now (Cards name) c.ask.result c.ask.new.self in
    let P : List Card → Type 0 = λ (cards : List Card). SavesCards g.S.Shelf.relations c.args.name.now c.args.over c.in-Cards.version cards c.args.shelf.now c.save_cards.new.shelf c.save_cards.result in
    let Q : Told → Type 0 = λ (what : Told). SavesTold g.S.Shelf.relations c.args.name.now c.args.over what c.args.shelf.now c.save_cards.new.shelf c.save_cards.result in
    record {
      reply = c.ask.result;
      made = subst M c.copied.ensures c.ask.ensures;
      kept = subst Q {y = told_of_cards All c.ask.result} c.told_of_cards.ensures.told (subst Q {y = c.told_of_cards.result} (sym c.in-Cards.is) (subst P c.as_slice.ensures c.save_cards.ensures.saves));
    }
