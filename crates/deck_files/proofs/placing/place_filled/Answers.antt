use Rattle.deck_files.proofs.PlacingSteps.{removed}
use Rattle.deck_files.proofs.placing.place_filled.Goals as goal

-- it did not get the path, and was to be taken away
pub returns-in-Err-clause-fault : goal.returns-in-Err-clause-fault
returns-in-Err-clause-fault g c = removed g.W.WholeFiles.has_done c.args.new.now _ _ _ _ c.in-Err.ensures.fault c.remove.ensures
