use Rattle.std.{proofs.Common.{◌≡◌, ℕ, Option, true, subst, sym}, specs.List.list_any}
use Rattle.desk_core.{specs.Desks.Desk, specs.Joins.Calls.{DeckJob, Refused, OutOfMemory}, specs.Claiming.{is_behind, is_free, claim}, specs.Joins.OwnNames.IsPlaceOf, specs.Joins.Turns.MayAnswer, proofs.ClaimDone.{claim-told, claim-lacking, claim-done}}
use Rattle.desk_core.proofs.desk.Desk.claim.Goals as goal

pub give_out_at-requires-clause-within : goal.give_out_at-requires-clause-within
give_out_at-requires-clause-within c = (c.place_free.ensures.some c.in-Some.place c.in-Some.is).1

pub returns-in-Some-against_lease : goal.returns-in-Some-against_lease
returns-in-Some-against_lease c =
    let behind : list_any is_behind c.args.self.now.decks ≡ true = cc in
    let is = subst (λ (place : Option ℕ). IsPlaceOf is_free place c.args.self.now.decks) c.in-Some.is c.place_free.ensures in
    claim-told c.args.self.now c.in-Some.place behind is c.in-Some-against_lease.refusal cc

pub returns-in-Ok : goal.returns-in-Ok
returns-in-Ok c =
    let behind : list_any is_behind c.args.self.now.decks ≡ true = cc in
    let is = subst (λ (place : Option ℕ). IsPlaceOf is_free place c.args.self.now.decks) c.in-Some.is c.place_free.ensures in
    subst (λ (next : Desk). MayAnswer c.args.self.now (claim c.args.self.now) (DeckJob c.in-Ok.work) next) (sym c.in-Ok.ensures.desk)
    (claim-done c.args.self.now c.in-Some.place behind is c.in-Ok.work (cc) c.in-Ok.ensures.work)

pub returns-in-Err : goal.returns-in-Err
returns-in-Err c =
    let behind : list_any is_behind c.args.self.now.decks ≡ true = cc in
    let is = subst (λ (place : Option ℕ). IsPlaceOf is_free place c.args.self.now.decks) c.in-Some.is c.place_free.ensures in
    subst (λ (next : Desk). MayAnswer c.args.self.now (claim c.args.self.now) (Refused OutOfMemory) next) (sym c.in-Err.ensures.desk)
    (claim-lacking c.args.self.now c.in-Some.place behind is cc)
