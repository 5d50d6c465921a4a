use Rattle.std.proofs.Common.{ℕ, List, Ok, Err, refl, sym, ap, subst, ◌∙◌}
use Rattle.definitions.specs.DeckInput.{Deck}
use Rattle.desk_core.specs.declared.calls.Change.TheVariants.{AddDeck}
use Rattle.session_line.specs.declared.answers.Told.TheVariants as told
use Rattle.session_line.specs.{declared.answers.Answer.Answer, Answers.{told_of_call, uncalled}, Asking.{Asks, NotesTold}}
use Rattle.session_line.proofs.executing.load_deck.Goals as goal

pub returns-in-Ok-clause-loads : goal.returns-in-Ok-clause-loads
returns-in-Ok-clause-loads g c =
    let P : Deck → Type 0 = λ (deck : Deck). Asks g.C.Calls.relations.changes (AddDeck deck) told_of_call c.args.desk.now c.make-answer.new.desk c.make-answer.result in
    let Q : List ℕ → Type 0 = λ (name : List ℕ). P (record { name = name; cards = c.in-Ok.cards.items }) in
    record {
      loaded = Ok c.in-Ok.cards.items;
      between = c.load.new.self;
      shelved = c.in-Ok.ensures.cards;
      added = subst Q c.copied.ensures (subst P c.new.ensures c.make-answer.ensures.makes);
      noted = c.note_told.ensures;
    }

pub returns-in-Err-clause-loads : goal.returns-in-Err-clause-loads
returns-in-Err-clause-loads g c =
    let told = c.uncalled.ensures ∙ ap (λ r. uncalled (told.Refused r)) c.load_reason.ensures in
    record {
      loaded = Err c.in-Err.fault;
      between = c.load.new.self;
      shelved = c.in-Err.ensures.fault;
      added = (refl, told);
      noted = subst (λ (answer : Answer). NotesTold g.S.Shelf.relations c.args.name answer.told c.load.new.self c.load.new.self) (sym told) refl;
    }
