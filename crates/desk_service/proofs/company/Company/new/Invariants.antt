use Rattle.std.proofs.Common.{◌≡◌, All, None, length}
use Rattle.desk_service.proofs.company.Company.new.Given as goal

-- as many seats as were pushed, and nobody on any of them
abbrev pub invariant-loop : goal.invariant-loop
invariant-loop l = record {
  all : length l.seats.items ≡ l.counter;
  nobody : All (λ seat. seat ≡ None) l.seats.items;
}
