use Rattle.deck_files.proofs.PlacingSteps.{removed-alone}
use Rattle.deck_files.proofs.placing.place.Goals as goal

-- it was not filled, and was to be taken away
pub returns-in-Err-clause-fault : goal.returns-in-Err-clause-fault
returns-in-Err-clause-fault g c = removed-alone g.W.WholeFiles.has_done c.args.new.now _ _ _ c.remove.ensures
