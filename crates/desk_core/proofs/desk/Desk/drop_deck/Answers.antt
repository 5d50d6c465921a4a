use Rattle.std.proofs.Common.{◌∙◌, ℕ, Option, ap, subst, sym}
use Rattle.desk_core.{specs.Desks.is_named, specs.Joins.OwnNames.IsPlaceOf, specs.Joins.Calls.Changed, proofs.ChangeDone.drop-done}
use Rattle.desk_core.proofs.desk.Desk.drop_deck.Goals as goal

pub against_drop-requires : goal.against_drop-requires
against_drop-requires c = (c.place_of.ensures.some c.in-Some.place c.in-Some.is).1

pub returns-in-None : goal.returns-in-None
returns-in-None c =
    let is = subst (λ (place : Option ℕ). IsPlaceOf (is_named c.args.name.now) place c.args.self.now.decks) c.in-Some.is c.place_of.ensures in
    let both = drop-done c.args.name.now c.args.seen c.args.self.now c.in-Some.place is (sym c.against_drop.ensures ∙ c.in-None.is) in
    (ap (λ (version : ℕ). Changed version) c.drop_at.ensures.version ∙ both.0, c.drop_at.ensures.desk ∙ both.1)
