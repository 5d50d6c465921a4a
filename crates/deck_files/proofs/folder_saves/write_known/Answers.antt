use Rattle.std.proofs.Common.{inl}
use Rattle.deck_files.proofs.SaveFaults.{known-bars, known-gives}
use Rattle.deck_files.proofs.folder_saves.write_known.Goals as goal

-- it has just what is known
pub returns-in-Ok-true-clause-way : goal.returns-in-Ok-true-clause-way
returns-in-Ok-true-clause-way g c = known-gives g.F.Folder.has_done c.args.place.now c.args.known c.in-Some.sum c.in-Ok-true.field-0 _ _ c.in-Some.is c.in-Ok-true.field-0-test c.in-Ok-true.ensures.told

-- it has something else
pub returns-in-Ok-false-clause-fault : goal.returns-in-Ok-false-clause-fault
returns-in-Ok-false-clause-fault g c =
    inl (known-bars g.F.Folder.has_done c.args.place.now c.args.known c.in-Some.sum c.in-Ok-false.field-0 _ _ c.in-Some.is c.in-Ok-false.field-0-test c.in-Ok-false.ensures.told)
