use Rattle.kept_desk.proofs.RefusedCommands.{command-unchanged}
use Rattle.kept_desk.proofs.laws.refusals_change_nothing.Goals as goal

pub returns : goal.returns
returns g c = λ rights old new refused.
    command-unchanged g.E.Ends.relations g.S.Shelf.relations rights old new refused
