use Rattle.std.proofs.Common.{Some}
use Rattle.turn_office.specs.Joins.Told.{ended}
use Rattle.turn_office.proofs.seat.Seat.call.Given as goal

-- the end of the turn is given the opening, the call and the reply
abbrev pub ghosts-end_turn : goal.ghosts-end_turn
ghosts-end_turn g a = record { told = Some (ended a.floor.now.key.seats a.floor.now.key.first.value a.call.now.value a.reply.now) }
