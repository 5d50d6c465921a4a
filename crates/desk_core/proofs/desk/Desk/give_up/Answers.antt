use Rattle.std.proofs.Common.{◌∙◌, ℕ, Option, subst}
use Rattle.desk_core.{specs.Joins.OwnNames.{IsPlaceOf, has_lease}, proofs.DeliverDone.given-up}
use Rattle.desk_core.proofs.desk.Desk.give_up.Goals as goal

pub lose-requires : goal.lose-requires
lose-requires c = (c.place_leased.ensures.some c.in-Some.place c.in-Some.is).1

pub returns-in-Some : goal.returns-in-Some
returns-in-Some c =
    let is = subst (λ (place : Option ℕ). IsPlaceOf (has_lease c.args.lease) place c.args.self.now.decks) c.in-Some.is c.place_leased.ensures in
    let both = given-up c.args.lease c.args.self.now c.in-Some.place is in
    (c.lose.ensures.0 ∙ both.0, c.lose.ensures.1 ∙ both.1)
