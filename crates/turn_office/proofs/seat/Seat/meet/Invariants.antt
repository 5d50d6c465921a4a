use Rattle.std.proofs.Common.{Some}
use Rattle.turn_office.specs.Joins.Told.{opened}
use Rattle.turn_office.proofs.seat.Seat.meet.Given as goal

-- the look at the history is given the opening
abbrev pub ghosts-learn : goal.ghosts-learn
ghosts-learn g a = record { told = Some (opened a.floor.now.key.seats a.floor.now.key.first.value) }
