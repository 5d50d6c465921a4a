use Rattle.deck_files.proofs.PlacingSteps.{removed-alone}
use Rattle.deck_files.proofs.placing.fill_and_place.Goals as goal

-- not all was written
pub returns-in-Err-clause-fault : goal.returns-in-Err-clause-fault
returns-in-Err-clause-fault g c = removed-alone g.W.WholeFiles.has_done c.args.new.now _ _ _ c.remove.ensures
