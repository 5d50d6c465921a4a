use Rattle.std.proofs.Common.{[], ◌∷◌}
use Rattle.deck_files.{specs.Steps.{Look, Refused, Found}, specs.FolderSaves.untouched, proofs.FolderSteps.fault-of-new, proofs.SaveFaults.{gives-free, gives-over, stays-over}}
use Rattle.deck_files.proofs.folder_saves.make_way.Goals as goal

-- nothing stands there
pub returns-in-Ok-Nothing-clause-way : goal.returns-in-Ok-Nothing-clause-way
returns-in-Ok-Nothing-clause-way g c =
    gives-free g.F.Folder.has_done c.args.place.now c.args.over c.args.known c.args.deck.now c.in-Ok-Nothing.field-0 _ _ c.requires c.in-Ok-Nothing.field-0-is c.in-Ok-Nothing.ensures

-- a plain file stands there, and may be written over
pub returns-in-Ok-clause-way : goal.returns-in-Ok-clause-way
returns-in-Ok-clause-way g c =
    gives-over g.F.Folder.has_done c.args.place.now c.args.over c.args.known c.in-Ok.keeps c.args.deck.now c.in-Ok-PlainFile.field-0 _ _ _ c.requires c.in-Ok-PlainFile.field-0-is
    c.in-Ok-PlainFile.ensures c.in-Ok.ensures.way

-- it may not
pub returns-in-Err-write_over-clause-fault : goal.returns-in-Err-write_over-clause-fault
returns-in-Err-write_over-clause-fault g c text =
    stays-over g.F.Folder.has_done c.args.place.now c.args.over c.args.known text c.args.deck.now c.in-Err-write_over.fault c.in-Ok-PlainFile.field-0 _ _ _ c.requires c.in-Ok-PlainFile.field-0-is
    c.in-Ok-PlainFile.ensures c.in-Err-write_over.ensures.fault

-- something else does
pub returns-in-Ok-Other-clause-fault : goal.returns-in-Ok-Other-clause-fault
returns-in-Ok-Other-clause-fault g c text = untouched tt ((Look c.args.deck.now, Found c.in-Ok-Other.field-0) ∷ [], (tt, tt), c.in-Ok-Other.ensures)

-- the folder refused to look
pub returns-in-Err-clause-fault : goal.returns-in-Err-clause-fault
returns-in-Err-clause-fault g c text =
    untouched (fault-of-new text c.save_fault.result c.save_fault.ensures.one) ((Look c.args.deck.now, Refused) ∷ [], (tt, tt), c.in-Err.ensures)
