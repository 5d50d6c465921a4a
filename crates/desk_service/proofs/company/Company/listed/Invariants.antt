use Rattle.std.proofs.Common.{◌≡◌, take}
use Rattle.desk_service.specs.Company.{listed_from}
use Rattle.desk_service.proofs.company.Company.listed.Given as goal

-- exactly those of the seats so far are listed
abbrev pub invariant-loop-at : goal.invariant-loop-at
invariant-loop-at l = record { so_far : l.sessions.items ≡ listed_from l.self.editors 0 l.number l.name (take l.at l.self.seats) }
