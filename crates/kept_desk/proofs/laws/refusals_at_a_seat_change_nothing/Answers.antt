use Rattle.kept_desk.proofs.RefusedCommands.{seat-unchanged}
use Rattle.kept_desk.proofs.laws.refusals_at_a_seat_change_nothing.Goals as goal

pub returns : goal.returns
returns g c = λ office seat rights old new refused.
    seat-unchanged office seat g.E.Ends.relations g.S.Shelf.relations rights old new refused
