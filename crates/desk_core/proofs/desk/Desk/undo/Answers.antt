use Rattle.std.{proofs.Common.{◌≡◌, ◌<◌, ◌∙◌, ℕ, List, length, Option, Some, ap, sym, subst, arith}, specs.Prelude.slice_get}
use Rattle.desk_core.{specs.Desks.{Desk, DeskDeck, is_named}, specs.Joins.OwnNames.IsPlaceOf, proofs.UndoDone.{few-backs, undo-refused, undo-done}}
use Rattle.desk_core.proofs.desk.Desk.undo.Goals as goal

pub deck_at-deck-requires : goal.deck_at-deck-requires
deck_at-deck-requires c =
    subst (λ (decks : List DeskDeck). c.in-Some.place < length decks) (sym (ap (λ (d : Desk). d.decks) c.self.view_is)) (c.place_of.ensures.some c.in-Some.place c.in-Some.is).1

pub returns-in-Some-against_change : goal.returns-in-Some-against_change
returns-in-Some-against_change c =
    let desk = c.args.self.now in
    let is = subst (λ (place : Option ℕ). IsPlaceOf (is_named c.args.name.now) place desk.decks) c.in-Some.is c.place_of.ensures in
    let found : slice_get desk.decks c.in-Some.place ≡ Some c.deck_at-deck.result.now =
    subst (λ (decks : List DeskDeck). slice_get decks c.in-Some.place ≡ Some c.deck_at-deck.result.now) (ap (λ (d : Desk). d.decks) c.self.view_is) c.deck_at-deck.ensures in
    undo-refused c.args.name.now c.args.by.now c.args.version desk c.in-Some.place is c.deck_at-deck.result.now found c.against_change.result c.in-Some-against_change.refusal c.against_change.ensures c.in-Some-against_change.is

pub split_at_mut-edits-requires : goal.split_at_mut-edits-requires
split_at_mut-edits-requires c =
    let few = few-backs c.args.version c.deck_at-deck.result.now (sym c.against_change.ensures ∙ c.in_default-against_change.is) in
    let count = c.backs_at-backs.ensures.count in
    omega (arith, few, count)

pub returns : goal.returns
returns c =
    let desk = c.args.self.now in
    let is = subst (λ (place : Option ℕ). IsPlaceOf (is_named c.args.name.now) place desk.decks) c.in-Some.is c.place_of.ensures in
    let found : slice_get desk.decks c.in-Some.place ≡ Some c.deck_at-deck.result.now =
    subst (λ (decks : List DeskDeck). slice_get decks c.in-Some.place ≡ Some c.deck_at-deck.result.now) (ap (λ (d : Desk). d.decks) c.self.view_is) c.deck_at-deck.ensures in
    undo-done c.args.name.now c.args.by.now c.args.version desk c.in-Some.place is c.deck_at-deck.result.now found c.against_change.result c.put_backs.new.edits c.edit_since.result c.edit_since.new.self
    c.against_change.ensures c.in_default-against_change.is (c.put_backs.ensures ∙ c.backs_at-backs.ensures.edits) c.edit_since.ensures
