use Rattle.deck_files.proofs.PlacingSteps.{unkept, unput}
use Rattle.deck_files.proofs.placing.keep_and_put.Goals as goal

-- it was not kept
pub returns-in-Err-clause-fault : goal.returns-in-Err-clause-fault
returns-in-Err-clause-fault g c = unkept g.W.WholeFiles.has_done c.args.new.now (g.W.NewFile.Write.contents c.args.file) _ _ c.in-Err.ensures

-- it did not get the path
pub returns-in-Err-put-clause-fault : goal.returns-in-Err-put-clause-fault
returns-in-Err-put-clause-fault g c = unput g.W.WholeFiles.has_done c.args.new.now c.args.path.now (g.W.NewFile.Write.contents c.args.file) _ _ _ c.in-Ok.ensures c.in-Err-put.ensures
