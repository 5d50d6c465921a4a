use Rattle.std.proofs.Common.{rules, subst, sym, ap, ◌≡◌, ◌≤◌, [], ◌∷◌, List, length, None}
use Rattle.cards.proofs.FaultLaws.{edited-few}
use Rattle.desk_core.{specs.Joins.Language.Card, specs.Desks.DeskDeck, specs.Joins.Edits.fault_of, specs.Past.{Past, past_after}, specs.Led.IsPastOf, proofs.PastLaws.{past-more, one-applies}}
use Rattle.desk_core.proofs.stored_deck.StoredDeck.edit_one.Goals as goal

-- the edited cards are no more than a deck may have
pub invariant_of-self-2 : goal.invariant_of-self-2
invariant_of-self-2 c =
    let inside = c.self.inside in
    let cards = inside.cards in
    let edit = c.args.edit.now in
    let same : c.args.self.now.cards ≡ cards = sym (ap (λ (deck : DeskDeck). deck.cards) c.self.view_is) in
    let applies = subst (λ (cards : List Card). fault_of edit cards ≡ None) same c.requires in
    let after = c.in_default.ensures.cards in
    let past : c.trim.new.self ≡ past_after c.args.version c.args.by.now (edit ∷ []) cards inside.past = search rules in
    record {
      few = subst (λ (after : List Card). length after ≤ 20000) (sym after) (edited-few edit cards applies c.self.invariant.few);
      its_object = search rules;
      led = subst (λ (p : Past). IsPastOf p.edits c.edit_waiting.new.cards) (sym past)
          (subst (λ (after : List Card). IsPastOf (past_after c.args.version c.args.by.now (edit ∷ []) cards inside.past).edits after) (sym after)
          (past-more c.args.version c.args.by.now (edit ∷ []) cards inside.past c.self.invariant.led (one-applies edit cards applies)));
    }
