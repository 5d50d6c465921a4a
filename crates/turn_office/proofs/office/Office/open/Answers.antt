use Rattle.std.proofs.Common.{rules, ◌≡◌, sym, subst}
use Rattle.turn_office.{specs.Seats.{AreOf, new_seats}, proofs.Dealing.new_are_of}
use Rattle.turn_office.proofs.office.Office.open.Goals as goal

pub returns-clause-seats : goal.returns-clause-seats
returns-clause-seats g c = let id = c.in_ok-office.office.id in
    let is : c.deal-list.result.items ≡ new_seats id c.args.seats = search rules in (is, subst (AreOf id) (sym is) (new_are_of id c.args.seats))
