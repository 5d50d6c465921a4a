use Rattle.std.proofs.Common.{◌≡◌, ◌<◌, ◌∙◌, List, Option, ℕ, length, get_or, ap, subst}
use Rattle.desk_service.{specs.Company.Company, proofs.CompanySteps.listed-more}
use Rattle.desk_service.proofs.company.Company.listed.Goals as goal

pub loop-at-preserved : goal.loop-at-preserved
loop-at-preserved c =
    let company = c.args.self.now in
    let seats = c.deref-seat-items.ensures.value ∙ ap (λ (company : Company). company.seats) c.self.view_is in
    let editors = ap (λ (company : Company). company.editors) c.self.view_is in
    let within = subst (λ (seats : List (Option (List ℕ))). c.loop-at.at < length seats) seats c.loop-at-test.true in
    let is = subst (λ (seats : List (Option (List ℕ))). c.seat-item.result ≡ get_or seats c.loop-at.at c.seat-item.result) seats c.seat-item.is in
    let more = listed-more company.editors c.args.number c.args.name.now company.seats c.loop-at.at c.seat-item.result within is in
    record { so_far = cc (more, editors, c.in_ok-push_connected.ensures, c.seated-who.ensures, c.loop-at.invariant.so_far) }
