use Rattle.std.proofs.Common.{◌≡◌, []}
use Rattle.turn_office.{specs.Seats.new_seats, proofs.Dealing.left_from}
use Rattle.turn_office.proofs.office.Office.deal.Given as goal

-- the numbers so far are dealt, in order, and the dealer has the others
abbrev pub invariant-loop-number : goal.invariant-loop-number
invariant-loop-number g l = record {
  own : l.dealer.table_id ≡ l.initial.dealer.table_id;
  rest : l.dealer.me ≡ (left_from l.number l.self.seats, []);
  dealt : l.list.items ≡ new_seats l.self.id l.number;
  room : l.list.cap ≡ l.initial.list.cap;
}
