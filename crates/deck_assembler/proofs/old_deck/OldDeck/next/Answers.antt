use Rattle.std.proofs.Common.{◌∙◌, ◌++◌, sym, ap}
use Rattle.std.specs.Option.{option_to_list}
use Rattle.deck_assembler.{proofs.PieceMeetings.{none-begun, own-rest}}
use Rattle.deck_assembler.proofs.old_deck.OldDeck.next.Goals as goal

pub returns-clause-none : goal.returns-clause-none
returns-clause-none c = λ e.
    let begun = c.begin_piece.new.self in
    let same = c.pop_front.ensures.items ∙ ap (λ r. option_to_list r ++ c.pop_front.new.self.items) e in
    let none = own-rest begun.statements.items (same ∙ c.pop_front.ensures.rest) in
    let both = none-begun c.args.self.now begun c.begin_piece.ensures.begun none in
    (sym same ∙ both.0, both.1)
