use Rattle.std.proofs.Common.{rules, ap, ◌∙◌}
use Rattle.turn_office.proofs.Seating.{deals, leaves, takes_in}
use Rattle.turn_office.proofs.seat.Seat.meet.Goals as goal

pub split_seat-all-requires : goal.split_seat-all-requires
split_seat-all-requires g c = (search rules, search rules, leaves g.O.Sequential.allowed _ _ _ _ (ap (λ m. m.0.stage) c.other.invariant))

pub join_seat-requires : goal.join_seat-requires
join_seat-requires g c = (search rules, search rules, search rules, search rules, takes_in g.O.Sequential.allowed _ _ _ _ _ _ (ap (λ m. m.0.stage) c.split_seat-all.ensures.4 ∙ ap (λ m. m.0.stage) c.other.invariant))

pub split_seat-requires : goal.split_seat-requires
split_seat-requires g c = (search rules, search rules, deals g.O.Sequential.allowed _ _ _ _ (ap (λ m. m.0.stage) c.learn.ensures.learned.rests ∙ (ap (λ m. m.0.stage) c.join_seat.ensures.2 ∙ ap (λ m. m.0.stage) c.self.invariant)))
