use Rattle.std.proofs.Common.{◌≡◌, sym, ap, ◌∙◌, subst}
use Rattle.turn_office.{specs.Rule.Ends, proofs.Seating.closes}
use Rattle.turn_office.proofs.office.Office.end.Goals as goal

pub unreachable-requires : goal.unreachable-requires
unreachable-requires g c = let last = closes g.O.Sequential.allowed _ _ _ _ _ _ (ap (λ m. m.0.stage) c.requires.all.0) (c.requires.all.1 ∙ sym (ap (λ o. o.seats) c.self.view_is)) c.close_with-closed.ensures.values.2 in
    cc (last.1, c.take.ensures.value, c.in_default.is)

pub returns : goal.returns
returns g c = let last = closes g.O.Sequential.allowed _ _ _ _ _ _ (ap (λ m. m.0.stage) c.requires.all.0) (c.requires.all.1 ∙ sym (ap (λ o. o.seats) c.self.view_is)) c.close_with-closed.ensures.values.2 in
    let same : last.0 ≡ c.in-Some.object = cc (last.1, c.take.ensures.value, c.in-Some.is) in
    subst (Ends g.O.Sequential.allowed c.args.self.seats c.args.self.first c.args.keeper.me.0.chairs) same
    (subst (λ o. Ends g.O.Sequential.allowed o.seats o.first c.args.keeper.me.0.chairs last.0) c.self.view_is last.2)
