-- The edited cards are few, and those before and behind the edited ones are of the deck before.
use Rattle.std.proofs.Common.{◌≡◌, ◌≤◌, None, List, length, take, refl, sym, ap, arith, subst, ◌∙◌}
use Rattle.cards.specs.Edits.{edited_by, first_fault}
use Rattle.definitions.specs.{Cards.Card, DeckInput.Deck, DeckKinds.kind_of_statements}
use Rattle.deck_assembler.{specs.Joins.Agreements.HaveSameEnd, specs.Joins.Formers.{known_in}, specs.Joins.Tails.HasTailIfAny, proofs.ResultLaws.on_ok_any}
use Rattle.edit_core.{specs.Edited.{RisesBehindFront, RisesToAnew, RisesToDue, RisesToDueCode, CountsToDue}, specs.Records.Record, proofs.DueLaws.{AreTaken, are-taken, due-code-object, due-code-still, due-edited, due-still}, proofs.EditLaws.{anew-edited, few-all, front-all, front-edited, front-still, rebound-edited}}
use Rattle.edit_core.proofs.kept.Kept.remade.Goals.{After-cards_behind_all, After-edited, After-edited_object}
use Rattle.edit_core.proofs.kept.Kept.remade.Goals as goal

pub edited-requires-clause-before : goal.edited-requires-clause-before
edited-requires-clause-before c =
    let n = c.cards_before_all.result in
    let now = c.deref.ensures.value ∙ c.in-Ok.ensures in
    let apply = subst (λ (cards : List Card). first_fault c.args.edits.now cards ≡ None) (sym c.cards-own.ensures.cards) c.requires.apply in
    sym (ap (take n) now ∙ front-all n c.args.edits.now c.cards-own.result.now c.cards_before_all.ensures.all apply)

pub edited-requires-clause-behind : goal.edited-requires-clause-behind
edited-requires-clause-behind c =
    let own = c.cards-own.result.now in
    let now = c.deref.ensures.value ∙ c.in-Ok.ensures in
    let apply = subst (λ (cards : List Card). first_fault c.args.edits.now cards ≡ None) (sym c.cards-own.ensures.cards) c.requires.apply in
    let few = subst (λ (cards : List Card). length cards ≤ 20000) (sym c.cards-own.ensures.cards) c.cards-own.ensures.few in
    subst (HaveSameEnd c.cards_behind_all.result own) (sym now)
    (c.cards_behind_all.ensures.all own refl few apply)

pub edited_object-requires-clause-few : goal.edited_object-requires-clause-few
edited_object-requires-clause-few c =
    let now = c.in-Ok.ensures ∙ ap (λ (cards : List Card). edited_by c.args.edits.now cards) c.cards-own.ensures.cards in
    subst (λ (cards : List Card). length cards ≤ 20000) (sym now) (few-all c.args.edits.now c.args.self.now.cards c.requires.apply c.cards-own.ensures.few)

pub edited_object-requires-clause-edited : goal.edited_object-requires-clause-edited
edited_object-requires-clause-edited c =
    let former = c.in_ok-edited.edited.former in
    let n = former.before in
    let now = c.in-Ok.ensures ∙ ap (λ (cards : List Card). edited_by c.args.edits.now cards) c.cards-own.ensures.cards in
    let unchanged = front-all c.cards_before_all.result c.args.edits.now c.args.self.now.cards c.cards_before_all.ensures.all c.requires.apply in
    let own = c.cards-own.ensures.cards ∙ sym (ap (λ (r : Record). r.cards) c.self.view_is) ∙ sym (ap (λ (d : Deck). d.cards) c.object.ensures) in
    record {
      same = ap (λ (d : Deck). take n d.cards) c.object.ensures
          ∙ ap (λ (r : Record). take n r.cards) c.self.view_is
          ∙ sym (ap (take n) now ∙ subst (λ m. take m (edited_by c.args.edits.now c.args.self.now.cards) ≡ take m c.args.self.now.cards) (sym c.in_ok-edited.ensures.former.before_is) unchanged);
      tail = subst (λ (both : List Card × List Card). HasTailIfAny (kind_of_statements (known_in both.1)) both.0 both.1 former.tail (known_in both.1)) (λ i. (own i, c.deref.ensures.value i)) c.in_ok-edited.ensures.former.tail;
    }

pub of-requires-clause-few : goal.of-requires-clause-few
of-requires-clause-few c =
    let now = c.in-Ok.ensures ∙ ap (λ (cards : List Card). edited_by c.args.edits.now cards) c.cards-own.ensures.cards in
    let few = few-all c.args.edits.now c.args.self.now.cards c.requires.apply c.cards-own.ensures.few in
    let made = ap (λ (d : Deck). length d.cards) c.in-Ok-edited_object.ensures.object in
    let own = ap (λ (cards : List Card). length cards) now in
    omega (arith, few, made, own)

pub returns-in-Err-clause-sized_front : goal.returns-in-Err-clause-sized_front
returns-in-Err-clause-sized_front c = front-still c.args.edits.now c.args.self.now.cards c.args.meter.now.sized

front : (c : After-edited) → RisesBehindFront c.args.edits.now c.args.self.now.cards c.args.meter.now.sized c.edited.new.meter.sized
front c =
    front-edited c.args.edits.now c.cards-own.result.now c.args.self.now.cards _ c.cards_before_all.result _ _ c.cards-own.ensures.cards (c.deref.ensures.value ∙ c.in-Ok.ensures)
    c.cards_before_all.ensures.most c.cards-own.ensures.few c.edited.ensures.counts.front

pub returns-in_err-edited-clause-sized_front : goal.returns-in_err-edited-clause-sized_front
returns-in_err-edited-clause-sized_front c = front (goal.at.returns-in_err-edited-clause-sized_front c).After-edited

pub returns-in-Err-edited_object-clause-sized_front : goal.returns-in-Err-edited_object-clause-sized_front
returns-in-Err-edited_object-clause-sized_front c =
    subst (RisesBehindFront c.args.edits.now c.args.self.now.cards c.args.meter.now.sized) (sym c.edited_object.ensures.sized) (front (goal.at.returns-in-Err-edited_object-clause-sized_front c).After-edited)

pub returns-in-Ok-edited_object-clause-sized_front : goal.returns-in-Ok-edited_object-clause-sized_front
returns-in-Ok-edited_object-clause-sized_front c =
    subst (RisesBehindFront c.args.edits.now c.args.self.now.cards c.args.meter.now.sized) (sym c.edited_object.ensures.sized) (front (goal.at.returns-in-Ok-edited_object-clause-sized_front c).After-edited)

own_taken : (c : After-cards_behind_all) → AreTaken c.args.edits.now c.args.self.now.cards c.cards_before_all.result c.cards_behind_all.result
own_taken c = are-taken c.args.edits.now c.cards-own.result.now c.args.self.now.cards c.cards_before_all.result c.cards_behind_all.result c.cards-own.ensures.cards c.requires.some c.requires.apply c.cards-own.ensures.few
    c.cards_before_all.ensures.all c.cards_before_all.ensures.most c.cards_behind_all.ensures.most

sized_due : (c : After-edited) → RisesToDue c.args.edits.now c.args.self.now.cards c.args.meter.now.sized c.edited.new.meter.sized
sized_due c =
    let counts = c.edited.ensures.counts in
    due-edited c.args.edits.now c.cards-own.result.now c.args.self.now.cards _ c.cards_before_all.result c.cards_behind_all.result _ _ c.cards-own.ensures.cards (c.deref.ensures.value ∙ c.in-Ok.ensures)
    (own_taken (goal.at.After-edited c).After-cards_behind_all) counts.rises counts.front counts.due

pub returns-in-Err-clause-due : goal.returns-in-Err-clause-due
returns-in-Err-clause-due c =
    let taken = own_taken (goal.at.returns-in-Err-clause-due c).After-cards_behind_all in
    record {
      sized = due-still c.args.edits.now c.args.self.now.cards c.cards_before_all.result c.cards_behind_all.result c.args.meter.now.sized taken;
      coded = due-code-still c.args.edits.now c.args.self.now.cards c.cards_before_all.result c.cards_behind_all.result c.args.meter.now.coded taken;
    }

pub returns-in_err-edited-clause-due : goal.returns-in_err-edited-clause-due
returns-in_err-edited-clause-due c =
    let past = goal.at.returns-in_err-edited-clause-due c in
    record {
      sized = sized_due past.After-edited;
      coded = subst (RisesToDueCode c.args.edits.now c.args.self.now.cards c.args.meter.now.coded) (sym c.edited.ensures.counts.coded)
          (due-code-still c.args.edits.now c.args.self.now.cards c.cards_before_all.result c.cards_behind_all.result c.args.meter.now.coded (own_taken past.After-cards_behind_all));
    }

shown : (c : After-edited_object) → c.cards-own.result.now ≡ c.object.result.now.cards
shown c = c.cards-own.ensures.cards ∙ sym (ap (λ (r : Record). r.cards) c.self.view_is) ∙ sym (ap (λ (d : Deck). d.cards) c.object.ensures)

due : (c : After-edited_object) → CountsToDue c.args.edits.now c.args.self.now.cards c.args.meter.now c.edited_object.new.meter
due c =
    let past = goal.at.After-edited_object c in
    let edited = c.in_ok-edited.ensures.former in
    record {
      sized = subst (RisesToDue c.args.edits.now c.args.self.now.cards c.args.meter.now.sized) (sym c.edited_object.ensures.sized) (sized_due past.After-edited);
      coded = due-code-object c.args.edits.now c.cards-own.result.now c.args.self.now.cards c.deref.result.now _ _ c.cards_before_all.result c.cards_behind_all.result c.in_ok-edited.edited.former c.args.meter.now.coded _ _
          c.cards-own.ensures.cards (c.deref.ensures.value ∙ c.in-Ok.ensures) (own_taken past.After-cards_behind_all) (shown c) c.deref.ensures.value c.edited.ensures.counts.coded c.edited_object.ensures.coded_rises
          edited.before_is edited.kinds edited.tail edited.within c.edited_object.ensures.coded_due;
    }

pub returns-in-Err-edited_object-clause-due : goal.returns-in-Err-edited_object-clause-due
returns-in-Err-edited_object-clause-due c = due (goal.at.returns-in-Err-edited_object-clause-due c).After-edited_object

pub returns-in-Ok-edited_object-clause-due : goal.returns-in-Ok-edited_object-clause-due
returns-in-Ok-edited_object-clause-due c = due (goal.at.returns-in-Ok-edited_object-clause-due c).After-edited_object

pub returns-in-Ok-edited_object-clause-anew : goal.returns-in-Ok-edited_object-clause-anew
returns-in-Ok-edited_object-clause-anew c =
    let edits = c.args.edits.now in
    let own = c.cards-own.result.now in
    let cards = c.args.self.now.cards in
    let same = c.cards-own.ensures.cards in
    let object = shown (goal.at.returns-in-Ok-edited_object-clause-anew c).After-edited_object in
    on_ok_any c.of.result (record {
      sized = subst (RisesToAnew edits cards c.args.meter.now.sized) (sym c.edited_object.ensures.sized)
          (anew-edited edits own cards c.deref.result.now _ _ same (c.deref.ensures.value ∙ c.in-Ok.ensures) c.in_ok-edited.ensures.anew);
      coded = rebound-edited edits own cards c.deref.result.now _ _ c.args.meter.now.coded _ _ same (c.deref.ensures.value ∙ c.in-Ok.ensures) object c.deref.ensures.value c.edited.ensures.counts.coded
          c.in-Ok-edited_object.ensures.coded_anew;
    })
