use Rattle.std.proofs.Common.{rules, ap, ◌∙◌}
use Rattle.turn_office.proofs.{Seating.takes_in, Gathering.{of_last, begins, goes_on, has_all}}
use Rattle.turn_office.proofs.close.gather.Goals as goal

pub loop-seat-init : goal.loop-seat-init
loop-seat-init g c = let is = c.in-Some.ensures.items in let own = of_last _ _ _ _ is c.requires.own.0 in record {
  own = ap (λ s. s.office) c.last.view_is ∙ own.1;
  left = own.0;
  gathers = begins c.last.inside.number c.last.inside.place _ _ _ c.last.view_is c.last.invariant is;
}

pub join_seat-requires : goal.join_seat-requires
join_seat-requires g c = let own = of_last _ _ _ _ c.in-Some-pop.ensures.items c.loop-seat.invariant.left in (
  c.loop-seat.invariant.own,
  ap (λ s. s.office) c.seat.view_is ∙ own.1,
  ap (λ m. m.1) c.seat.invariant,
  search rules,
  takes_in g.O.Sequential.allowed _ _ _ _ _ _ (ap (λ m. m.0.stage) c.seat.invariant),
)

pub loop-seat-preserved : goal.loop-seat-preserved
loop-seat-preserved g c = let is = c.in-Some-pop.ensures.items in record {
  own = c.join_seat.ensures.0 ∙ c.loop-seat.invariant.own;
  left = (of_last _ _ _ _ is c.loop-seat.invariant.left).0;
  gathers = goes_on c.seat.inside.number c.seat.inside.place _ _ _ _ _ _ c.seat.view_is c.seat.invariant is c.loop-seat.invariant.gathers c.join_seat.ensures.2;
}

pub returns-clause-all : goal.returns-clause-all
returns-clause-all g c = has_all _ _ _ (search rules) c.loop-seat.invariant.gathers
