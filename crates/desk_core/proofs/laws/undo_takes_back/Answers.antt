use Rattle.desk_core.proofs.{UndoTakesBack.{brings_back, latest_back}, UndoneChanges.undone}
use Rattle.desk_core.proofs.laws.undo_takes_back.Goals as goal

pub returns-clause-back : goal.returns-clause-back
returns-clause-back c = brings_back

pub returns-clause-latest : goal.returns-clause-latest
returns-clause-latest c = latest_back

pub returns-clause-undone : goal.returns-clause-undone
returns-clause-undone c = undone
