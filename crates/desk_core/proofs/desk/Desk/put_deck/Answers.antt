use Rattle.std.{proofs.Common.{◌≡◌, ◌∙◌, ℕ, Option, None, inl, inr, IsTrue, subst, sym}, specs.Prelude.slice_get}
use Rattle.desk_core.{specs.Joins.Language.Deck, specs.Desks.{Desk, is_named}, specs.Joins.OwnNames.IsPlaceOf, specs.Joins.Calls.Reply, specs.Answers.Answer, specs.Steps.is_made, specs.Changing.{against_put, put_deck}, specs.Joins.Turns.{IsAnswer, MayAnswer}, proofs.ChangeDone.put-done}
use Rattle.desk_core.proofs.desk.Desk.put_deck.Goals as goal

pub against_put-requires : goal.against_put-requires
against_put-requires c = (c.place_of.ensures.some c.in-Some.place c.in-Some.is).1

-- what may be answered is known by what the answer has
answered : (desk : Desk) (answer other : Answer) (reply : Reply) (next : Desk) → IsAnswer other answer.reply answer.desk → MayAnswer desk answer reply next → MayAnswer desk other reply next
answered desk answer other reply next same (inl (told, left)) = inl (told ∙ same.0, left ∙ same.1)
answered desk answer other reply next same (inr (made, told, left)) = inr (subst (λ (reply : Reply). IsTrue (is_made reply)) same.0 made, told, left)

-- the name was looked for, and the cards are taken out, of the deck as it lies in memory
pub returns-in-None : goal.returns-in-None
returns-in-None c =
    let new : Deck = record { name = c.deck.inside.name; cards = c.deck.inside.cards.items } in
    let desk = c.args.self.now in
    let is = subst (λ (place : Option ℕ). IsPlaceOf (is_named c.deck.inside.name) place desk.decks) c.in-Some.is c.place_of.ensures in
    let P : Deck → Type 0 = λ (deck : Deck). against_put c.args.seen deck desk (slice_get desk.decks c.in-Some.place) ≡ None in
    let clear = subst P (sym c.deck.view_is) (sym c.against_put.ensures ∙ c.in-None.is) in
    subst (λ (deck : Deck). MayAnswer desk (put_deck deck c.args.seen desk) c.put.result c.put.new.self) c.deck.view_is
    (answered desk _ (put_deck new c.args.seen desk) c.put.result c.put.new.self (put-done new c.args.seen desk c.in-Some.place is clear) c.put.ensures)
