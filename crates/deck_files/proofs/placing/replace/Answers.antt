use Rattle.deck_files.proofs.PlacingSteps.{removed-alone, replaces, unmade, unplaced}
use Rattle.deck_files.proofs.placing.replace.Goals as goal

pub returns-in-Ok-fill_and_place-clause-replaced : goal.returns-in-Ok-fill_and_place-clause-replaced
returns-in-Ok-fill_and_place-clause-replaced g c =
    replaces g.W.WholeFiles.has_done c.args.new.now c.args.path.now c.args.bytes.now (g.W.NewFile.Write.contents c.in-Ok-make.file) _ _ _ _ c.in-Ok.ensures c.in-Ok-make.ensures c.in-Ok-fill_and_place.ensures.placed

-- what stood there was not taken away
pub returns-in-Err-clause-fault : goal.returns-in-Err-clause-fault
returns-in-Err-clause-fault g c = removed-alone g.W.WholeFiles.has_done c.args.new.now _ _ _ c.in-Err.ensures

-- no new file was made
pub returns-in-Err-make-clause-fault : goal.returns-in-Err-make-clause-fault
returns-in-Err-make-clause-fault g c = unmade g.W.WholeFiles.has_done c.args.new.now _ _ _ c.in-Ok.ensures c.in-Err-make.ensures

-- it did not get the path
pub returns-in-Err-fill_and_place-clause-fault : goal.returns-in-Err-fill_and_place-clause-fault
returns-in-Err-fill_and_place-clause-fault g c =
    unplaced g.W.WholeFiles.has_done c.args.new.now (g.W.NewFile.Write.contents c.in-Ok-make.file) _ _ _ _ c.in-Ok.ensures c.in-Ok-make.ensures c.in-Err-fill_and_place.ensures.fault
