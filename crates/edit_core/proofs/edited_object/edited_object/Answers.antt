use Rattle.std.proofs.Common.{◌≤◌, ◌+◌, List, sym, subst}
use Rattle.definitions.specs.{Cards.Card, DeckInput.Deck, DeckKinds.kind_of_statements, Objects.object_of}
use Rattle.deck_objects.specs.Joins.PartsOf.{ArePartsOf}
use Rattle.deck_assembler.{specs.Joins.DueCodes.{IsPlanOf, RisesReboundOf, code_due_of}, specs.Joins.Formers.known_in, proofs.ResultLaws.on_ok_any}
use Rattle.edit_core.proofs.edited_object.edited_object.Goals as goal

pub new-requires : goal.new-requires
new-requires c =
    subst (λ (cards : List Card). let deck : Deck = record { name = c.copied.result; cards = cards } in ArePartsOf cards c.in_ok-parts.parts (object_of deck))
    c.deref.ensures.value (c.in_ok-parts.ensures.parts c.copied.result)

pub returns-in_err-parts-clause-coded_due : goal.returns-in_err-parts-clause-coded_due
returns-in_err-parts-clause-coded_due c = λ plan of.
    let same = c.deref.ensures.value in
    let moved = subst (λ (l : List Card). IsPlanOf (kind_of_statements (known_in l)) c.args.object.now.cards l c.args.edited.now.former plan) (sym same) of in
    subst (λ (l : List Card). c.edited_parts.new.meter.coded ≤ c.args.meter.now.coded + code_due_of l plan) same (c.in_err-parts.ensures.due plan moved)

pub returns-clause-coded_due : goal.returns-clause-coded_due
returns-clause-coded_due c = λ plan of.
    let same = c.deref.ensures.value in
    let moved = subst (λ (l : List Card). IsPlanOf (kind_of_statements (known_in l)) c.args.object.now.cards l c.args.edited.now.former plan) (sym same) of in
    subst (λ (l : List Card). c.edited_parts.new.meter.coded ≤ c.args.meter.now.coded + code_due_of l plan) same (c.in_ok-parts.ensures.due plan moved)

pub returns-clause-coded_anew : goal.returns-clause-coded_anew
returns-clause-coded_anew c = on_ok_any _ (subst (λ (l : List Card). RisesReboundOf c.args.object.now.cards l c.args.meter.now.coded c.edited_parts.new.meter.coded) c.deref.ensures.value c.in_ok-parts.ensures.anew)
