use Rattle.std.proofs.Common.{ℕ, Option, subst, refl}
use Rattle.desk_core.{specs.Joins.OwnNames.{IsPlaceOf, has_lease}, proofs.DeliverDone.delivered}
use Rattle.desk_core.proofs.desk.Desk.deliver_deck.Goals as goal

pub take_result-requires : goal.take_result-requires
take_result-requires c = (c.place_leased.ensures.some c.in-Some.place c.in-Some.is).1

pub returns-in-Some : goal.returns-in-Some
returns-in-Some c =
    let is = subst (λ (place : Option ℕ). IsPlaceOf (has_lease c.args.done.lease) place c.args.self.now.decks) c.in-Some.is c.place_leased.ensures in
    delivered c.args.done.lease c.args.self.now c.in-Some.place is c.args.done c.take_result.result c.take_result.new.self refl c.take_result.ensures
