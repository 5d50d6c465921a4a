use Rattle.deck_files.{specs.FolderShelves.FolderShelf, proofs.ShelfSteps.{shelf-loads, shelf-refuses}}
use Rattle.deck_files.proofs.folder_shelf.FolderShelfShelf.load.Goals as goal

-- the cards that the folder's load gave
pub returns-in-Ok-clause-cards : goal.returns-in-Ok-clause-cards
returns-in-Ok-clause-cards g c =
    let inside = c.self.inside in
    let shelf : FolderShelf g.row.F.Denot g.row.K.Denot = record { files = inside.files; folder = inside.folder.now; number = inside.number; turns = inside.turns; seen = inside.seen; loaded = inside.loaded } in
    shelf-loads g.F.Folder.has_done g.K.SaveTurns.tells_newest g.K.SaveTurns.places c.in-Some.place shelf c.args.self.now c.args.name.now c.in-Ok.loaded.cards.items c.in-Ok.loaded.sum _ _ _ _
    c.self.view_is c.in-Some.ensures.place c.newest-self-inside.ensures c.in-Ok.ensures.placed c.in-Ok.ensures.cards

-- the fault that it had
pub returns-in-Err-clause-fault : goal.returns-in-Err-clause-fault
returns-in-Err-clause-fault g c =
    let inside = c.self.inside in
    let shelf : FolderShelf g.row.F.Denot g.row.K.Denot = record { files = inside.files; folder = inside.folder.now; number = inside.number; turns = inside.turns; seen = inside.seen; loaded = inside.loaded } in
    shelf-refuses g.F.Folder.has_done g.K.SaveTurns.tells_newest g.K.SaveTurns.lacks c.in-Some.place shelf c.args.self.now c.args.name.now c.in-Err.fault _ _ _ _ c.self.view_is c.in-Some.ensures.place c.newest-self-inside.ensures
    c.in-Err.ensures.unplaced c.in-Err.ensures.fault
