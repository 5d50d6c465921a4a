use Rattle.std.proofs.Common.{◌≡◌, map}
use Rattle.turn_office.{specs.Boards.chair_of, specs.Seats.AreOf, proofs.Gathering.Gathers}
use Rattle.turn_office.proofs.close.gather.Given as goal

-- the keeper has the numbers of all seats but those that are left in the list
abbrev pub invariant-loop-seat : goal.invariant-loop-seat
invariant-loop-seat g l = record {
  own : l.keeper.table_id ≡ l.floor.table_id;
  left : AreOf l.floor.table_id l.list.items;
  gathers : Gathers (map chair_of l.fn.list.items) l.list.items l.keeper.me;
}

abbrev pub decreases-loop-seat : goal.decreases-loop-seat
decreases-loop-seat g l = goal.left-loop-seat g l
